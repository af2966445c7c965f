-- What the page's rule means to its users: what was put is read, and a join keeps every other code. Assumes nothing.
use Rattle.std.specs.Prelude.{◌≡◌, ℕ, ◌<◌, Bool, true, false, if◌then◌else◌, not, ◌&&◌, List, [], ◌∷◌, ◌++◌, length, take, drop, ℤ, pos, ◌==◌, int_le}
use Rattle.interface.specs.Equality.{Call, library_after}
use Rattle.interface.specs.Values.{number_of}
use Rattle.interface.specs.declared.value.Value.{Value}
use Rattle.interface.specs.declared.value.Value.TheVariants.{Number}
use Rattle.interface.specs.declared.answers.LibraryAnswer.TheVariants.{Return}
use Rattle.libraries.specs.Arguments.{same, done}
use Rattle.libraries.specs.Page.{page_rule}

-- the values of a read or a join
abbrev pub one : ℕ → List Value
one p = Number (pos p) ∷ []

-- the values of a put
abbrev pub two : ℕ → ℕ → List Value
two p c = Number (pos p) ∷ (Number (pos c) ∷ [])

-- a put of this place
abbrev pub puts_at : ℕ → List Value → Bool
puts_at p [] = false
puts_at p (v ∷ []) = false
puts_at p (v ∷ (w ∷ [])) = same (number_of v) (pos p)
puts_at p (v ∷ (w ∷ (x ∷ more))) = false

-- a join at this place or at a lower one, which moves what stands here
abbrev pub joins_up_to : ℕ → List Value → Bool
joins_up_to p [] = false
joins_up_to p (v ∷ []) = int_le (number_of v) (pos p)
joins_up_to p (v ∷ (w ∷ more)) = false

-- a call that may write at a place
abbrev pub may_write : ℕ → ℕ → List Value → Bool
may_write p m vs = if m == 1 then puts_at p vs else if m == 2 then joins_up_to p vs else false

-- none of some calls may write at a place
abbrev pub none_writes : ℕ → List Call → Bool
none_writes p [] = true
none_writes p ((m, vs) ∷ calls) = not (may_write p m vs) && none_writes p calls

-- what was put at a place is read there after any calls that do not write at it
abbrev pub PutIsRead : Type 0
PutIsRead =
    (cs : List ℤ) (p c : ℕ) (calls : List Call) → length cs ≡ 256 → p < 256 → c < 1114112 → none_writes p calls ≡ true
    → (page_rule (library_after page_rule (page_rule cs 1 (two p c)).1 calls) 0 (one p)).0 ≡ Return (pos c)

-- where a join is done, the new page with hyphen and line feed put back is the old page with two zeros behind it
abbrev pub JoinKeepsTheRest : Type 0
JoinKeepsTheRest =
    (cs new : List ℤ) (p : ℕ) → length cs ≡ 256 → page_rule cs 2 (one p) ≡ done new
    → take p new ++ (pos 45 ∷ (pos 10 ∷ drop p new)) ≡ cs ++ (pos 0 ∷ (pos 0 ∷ []))
