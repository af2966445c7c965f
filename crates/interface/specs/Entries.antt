-- The entry that the log has of a call or a question. Assumes nothing.
use Rattle.std.specs.Prelude.{◌≡◌, ℕ, ◌≤◌, Bool, List, [], ◌∷◌, length, take, ℤ, pos, slice_index_or}
use Rattle.interface.specs.Answers.{kind_number, library_flag, library_number, policy_flag, policy_number}
use Rattle.interface.specs.declared.value.Value.{Value}
use Rattle.interface.specs.declared.value.Value.TheVariants.{Number}
use Rattle.interface.specs.declared.answers.QuestionKind.{QuestionKind}
use Rattle.interface.specs.declared.answers.LibraryAnswer.{LibraryAnswer}
use Rattle.interface.specs.declared.answers.PolicyAnswer.{PolicyAnswer}
use Rattle.interface.specs.declared.entry.Entry.{Entry}

-- the value at a place, or the number 0 behind the last
abbrev pub value_at : List Value → ℕ → Value
value_at vs k = slice_index_or vs k (Number (pos 0))

-- the first seven values, with the number 0 where there are fewer
abbrev pub first_seven : List Value → List Value
first_seven vs =
    value_at vs 0 ∷ value_at vs 1 ∷ value_at vs 2 ∷ value_at vs 3 ∷ value_at vs 4 ∷ value_at vs 5 ∷ value_at vs 6 ∷ []

-- an entry with this kind, flag and number
abbrev pub entry_of : ℕ → ℕ → List Value → ℕ → ℤ → Entry
entry_of k m vs f n = record { kind = k; method = m; count = length vs; values = first_seven vs; flag = f; number = n }

-- the entry of a call of a library, which has kind 1
abbrev pub library_entry : ℕ → List Value → LibraryAnswer → Bool → Entry
library_entry m vs a gives = entry_of 1 m vs (library_flag a) (library_number gives a)

-- the entry of a question to a policy
abbrev pub question_entry : QuestionKind → ℕ → List Value → PolicyAnswer → Entry
question_entry k m vs a = entry_of (kind_number k) m vs (policy_flag a) (policy_number a)

-- of up to seven values, as many as were counted can be read back
abbrev pub KeepsUpToSeven : Type 0
KeepsUpToSeven = (vs : List Value) → length vs ≤ 7 → take (length vs) (first_seven vs) ≡ vs
