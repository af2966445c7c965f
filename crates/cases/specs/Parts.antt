-- The parts of a table of cases. Assumes nothing.
use Rattle.std.specs.Prelude.{◌≡◌, ◌≢◌, ℕ, List, ◌∷◌, ◌++◌, Contains}

-- what stands ahead of the first such byte, and what stands behind it
pub record IsSplit (bytes : List ℕ) (byte : ℕ) (front back : List ℕ) : Type 0 where
  pub parts : bytes ≡ front ++ byte ∷ back
  pub first : Contains front byte → ⊥

-- a table that begins with a case of this text and this comment, and what is behind the case
pub record IsFirstCase (table text comment behind : List ℕ) : Type 0 where
  pub parts : table ≡ text ++ 37 ∷ (comment ++ 10 ∷ behind)
  pub text_ends : Contains text 37 → ⊥
  pub comment_ends : Contains comment 10 → ⊥

-- no case is left: no line feed stands behind a '%'
abbrev pub HasNoCase : List ℕ → Type 0
HasNoCase table = (text comment behind : List ℕ) → table ≢ text ++ 37 ∷ (comment ++ 10 ∷ behind)
