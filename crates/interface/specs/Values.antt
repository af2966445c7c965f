-- The number of a value. Assumes nothing.
use Rattle.std.specs.Prelude.{ℤ}
use Rattle.interface.specs.declared.value.Value.{Value}
use Rattle.interface.specs.declared.value.Value.TheVariants.{Number, Exception, SecurityException}

-- the number that a value counts as where a number is needed
abbrev pub number_of : Value → ℤ
number_of (Number n) = n
number_of (Exception n) = n
number_of (SecurityException n) = n
