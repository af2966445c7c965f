-- What an allowance means: a method's befores pass exactly as often as it was given. Assumes nothing.
use Rattle.std.specs.Prelude.{◌≡◌, ℕ, ◌+◌, min, if◌then◌else◌, List, [], ◌∷◌, length, ◌==◌, slice_index}
use Rattle.interface.specs.Equality.{Question}
use Rattle.interface.specs.declared.answers.QuestionKind.{QuestionKind}
use Rattle.interface.specs.declared.answers.QuestionKind.TheVariants.{Before, After, Except}
use Rattle.interface.specs.declared.answers.PolicyAnswer.{PolicyAnswer}
use Rattle.interface.specs.declared.answers.PolicyAnswer.TheVariants.{Pass, Stop}
use Rattle.policies.specs.Allowance.{allowance_rule}

-- 1 if a question is a before of this method, else 0
abbrev pub before_of : ℕ → QuestionKind → ℕ → ℕ
before_of m Before n = if n == m then 1 else 0
before_of m After n = 0
before_of m Except n = 0

-- a number that counts only if the answer is a pass
abbrev pub if_passed : PolicyAnswer → ℕ → ℕ
if_passed Pass n = n
if_passed (Stop c) n = 0

-- how many of some questions are befores of a method
abbrev pub asked : ℕ → List Question → ℕ
asked m [] = 0
asked m ((kind, (n, vs)) ∷ questions) = before_of m kind n + asked m questions

-- how many of those an allowance passes
abbrev pub passed : ℕ → List ℕ → List Question → ℕ
passed m left [] = 0
passed m left ((kind, (n, vs)) ∷ questions) =
    if_passed (allowance_rule left kind n vs).0 (before_of m kind n) + passed m (allowance_rule left kind n vs).1 questions

-- of the befores of a method as many pass as it was given, or all if there are fewer; a method above 31 was given none
abbrev pub PassesAsOftenAsGiven : Type 0
PassesAsOftenAsGiven =
    (left : List ℕ) (m : ℕ) (questions : List Question) → length left ≡ 32
    → passed m left questions ≡ min (slice_index left m) (asked m questions)
