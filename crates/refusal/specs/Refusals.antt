-- How a refusal is printed. Assumes nothing.
use Rattle.std.specs.Prelude.{ℕ, List, ◌∷◌, ◌++◌, decimal}
use Rattle.refusal.specs.declared.Refusal.{Refusal}

-- its number and its places, with blanks between them
abbrev pub refusal_text : Refusal → List ℕ
refusal_text r = decimal r.number ++ (32 ∷ (decimal r.first ++ (32 ∷ decimal r.second)))
