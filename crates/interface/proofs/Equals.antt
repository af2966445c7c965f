-- Equal parties answer alike and stay equal.
use Rattle.std.proofs.Common.{◌≡◌, List}
use Rattle.interface.specs.Equality.{StayEqual}

pub stay_equal : {Rule State In Out : Type 0} (answers_of : Rule → State → List In → List Out) (state_after : Rule → State → List In → State) → StayEqual answers_of state_after
stay_equal answers_of state_after rule₁ rule₂ s₁ s₂ xs e =
    let r = e.rules in let s = e.states in
    let alike : answers_of rule₁ s₁ xs ≡ answers_of rule₂ s₂ xs = cc in
    let states : state_after rule₁ s₁ xs ≡ state_after rule₂ s₂ xs = cc in
    (alike, record { rules = r; states = states })
