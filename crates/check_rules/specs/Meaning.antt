-- What it means that the depths of a method agree. Assumes nothing.
use Rattle.std.specs.Prelude.{◌≡◌, ℕ, ◌+◌, ◌-◌, ◌<◌, ◌≤◌, true, ◌⊎◌, List, [], ◌∷◌, length, Some, None, All, slice_index_or}
use Rattle.check_rules.specs.declared.effect.Effect.{Effect}
use Rattle.check_rules.specs.Depths.{Depths}

-- an effect at a location, under the limit K, where the locations have these depths: it finds what it takes, stays within the
-- limit, and every location that it leads to exists and has the depth that it leaves
pub record Sound (K : ℕ) (ds : Depths) (r : Effect) (at : ℕ) : Type 0 where
  pub depth : ℕ
  pub here : slice_index_or ds at None ≡ Some depth
  pub within : depth ≤ K
  pub enough : r.takes ≤ depth
  pub fits : depth - r.takes + r.leaves ≤ K
  pub goes_on : r.falls ≡ true → slice_index_or ds (at + 1) None ≡ Some (depth - r.takes + r.leaves)
  pub goes_to : (t : ℕ) → r.jump ≡ Some t → slice_index_or ds t None ≡ Some (depth - r.takes + r.leaves)
  pub exact : r.exact ≡ true → depth ≡ r.takes

-- one depth for each location of a method: location 0 has 0, each catch begin has 1, and every instruction is sound
pub record Typed (K : ℕ) (rows : List Effect) (catches : List ℕ) (ds : Depths) : Type 0 where
  pub begins : slice_index_or ds 0 None ≡ Some 0
  pub sound : (at : ℕ) (r : Effect) → at < length rows → r ≡ slice_index_or rows at r → Sound K ds r at
  pub caught : All (λ b. slice_index_or ds b None ≡ Some 1) catches

-- an instruction leads to a location: control may go on there, or branch there
abbrev pub Leads : Effect → ℕ → ℕ → Type 0
Leads r at l = ((r.falls ≡ true) × (at + 1 ≡ l)) ⊎ (r.jump ≡ Some l)

-- some instruction below a location, of these from `at` on, leads to it
abbrev pub FromBelow : List Effect → ℕ → ℕ → Type 0
FromBelow [] at l = ⊥
FromBelow (r ∷ rs) at l = (at < l) × (Leads r at l ⊎ FromBelow rs (at + 1) l)

-- a number is one of a list
abbrev pub Among : ℕ → List ℕ → Type 0
Among l [] = ⊥
Among l (b ∷ bs) = (l ≡ b) ⊎ Among l bs
