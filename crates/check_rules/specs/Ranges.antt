-- When a handler suits its method. Assumes nothing.
use Rattle.std.specs.Prelude.{ℕ, Bool, ◌&&◌, ◌||◌, nat_le, nat_lt}
use Rattle.sheet.specs.declared.location.PlainLocation.{PlainLocation}
use Rattle.sheet.specs.declared.records.Handler.{Handler}

-- a range that is not empty and ends within n instructions
abbrev pub holds : ℕ → ℕ → ℕ → Bool
holds n begin end = nat_lt begin end && nat_le end n

-- the two ranges of a handler have no location in common
abbrev pub apart : Handler PlainLocation → Bool
apart x = nat_le x.try_end.number x.catch_begin.number || nat_le x.catch_end.number x.try_begin.number

-- a handler that suits a method with this stack limit and n instructions
abbrev pub handles : ℕ → ℕ → Handler PlainLocation → Bool
handles limit n x = holds n x.try_begin.number x.try_end.number && (holds n x.catch_begin.number x.catch_end.number && (nat_lt 0 x.catch_begin.number && (apart x && nat_lt 0 limit)))
