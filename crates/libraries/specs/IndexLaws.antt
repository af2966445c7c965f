-- What the index's rule means to its users: what is found after entering and striking, and that its states are canonical.
-- Assumes nothing.
use Rattle.std.specs.Prelude.{◌≡◌, ◌≤◌, true, List, [], ◌∷◌, length, ℤ, pos, ◌≢◌}
use Rattle.interface.specs.Equality.{Call, library_after}
use Rattle.interface.specs.declared.value.Value.TheVariants.{Number}
use Rattle.interface.specs.declared.answers.LibraryAnswer.{LibraryAnswer}
use Rattle.interface.specs.declared.answers.LibraryAnswer.TheVariants.{Return, Raise}
use Rattle.libraries.specs.Arguments.{done}
use Rattle.libraries.specs.Index.{ordered, lookup, index_rule}
use Rattle.libraries.specs.declared.binding.Binding.{Binding}

-- what an index answers to find(k)
abbrev pub find_answer : List Binding → ℤ → LibraryAnswer
find_answer bs k = (index_rule bs 0 (Number k ∷ [])).0

-- every key but one is found as before
abbrev pub OthersAsBefore : List Binding → List Binding → ℤ → Type 0
OthersAsBefore bs new k = (j : ℤ) → (j ≢ k) → find_answer new j ≡ find_answer bs j

-- once a key was entered, it is found with its value, and every other key is found as before
abbrev pub FindAfterEnter : Type 0
FindAfterEnter = (bs new : List Binding) (k v : ℤ) → index_rule bs 1 (Number k ∷ (Number v ∷ [])) ≡ done new → (find_answer new k ≡ Return v) × OthersAsBefore bs new k

-- once a key was struck, it is absent, and every other key is found as before
abbrev pub FindAfterStrike : Type 0
FindAfterStrike = (bs new : List Binding) (k : ℤ) → ordered bs ≡ true → index_rule bs 2 (Number k ∷ []) ≡ done new → (find_answer new k ≡ Raise (pos 1)) × OthersAsBefore bs new k

-- at most 32 keys, in order
pub record Canonical (bs : List Binding) : Type 0 where
  pub few : length bs ≤ 32
  pub sorted : ordered bs ≡ true

-- an index is canonical when made, and after any calls
pub record StaysCanonical : Type 0 where
  pub made : Canonical []
  pub after : (bs : List Binding) (calls : List Call) → Canonical bs → Canonical (library_after index_rule bs calls)

-- two states with the same keys and values are one, whatever the order of entering was
abbrev pub SameValuesSameState : Type 0
SameValuesSameState = (bs cs : List Binding) → ordered bs ≡ true → ordered cs ≡ true → ((k : ℤ) → lookup bs k ≡ lookup cs k) → bs ≡ cs
