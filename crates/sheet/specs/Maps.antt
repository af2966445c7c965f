-- Results carried on. Assumes nothing.
use Rattle.std.specs.Prelude.{Ok, Err, Result}

-- go on with what came, or pass the fault on
abbrev pub and_then : {X Y E : Type 0} → Result X E → (X → Result Y E) → Result Y E
and_then (Ok x) f = f x
and_then (Err e) f = Err e

-- a fault as one of the layer above
abbrev pub raised : {X E F : Type 0} → (E → F) → Result X E → Result X F
raised f (Ok x) = Ok x
raised f (Err e) = Err (f e)
