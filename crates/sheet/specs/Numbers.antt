-- The kinds of a handler and their numbers, and flags as numbers. Assumes nothing.
use Rattle.std.specs.Prelude.{ℕ, Bool, true, false, Some, None, Option, ◌==◌, if◌then◌else◌}
use Rattle.sheet.specs.declared.records.Kind.{Kind}
use Rattle.sheet.specs.declared.records.Kind.TheVariants.{Every, SecurityOnly}
use Rattle.sheet.specs.declared.unknown.UnknownNumber.{UnknownNumber}

-- the number of a handler's kind
abbrev pub kind_number : Kind → ℕ
kind_number Every = 1
kind_number SecurityOnly = 2

-- the kind of a number, if there is one
abbrev pub kind_numbered : ℕ → Option Kind
kind_numbered n = if n == 1 then Some Every else if n == 2 then Some SecurityOnly else None

-- a flag as a number
abbrev pub flag : Bool → ℕ
flag true = 1
flag false = 0

-- a number that nothing has
abbrev pub unknown : ℕ → UnknownNumber
unknown n = record { number = n }
