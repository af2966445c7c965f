-- The numbers of the kinds of questions and of the answers of libraries and policies. Assumes nothing.
use Rattle.std.specs.Prelude.{ℕ, Bool, if◌then◌else◌, List, ◌++◌, ℤ, pos, Some, None, Option, ◌==◌, codes, decimal}
use Rattle.interface.specs.declared.answers.QuestionKind.{QuestionKind}
use Rattle.interface.specs.declared.answers.QuestionKind.TheVariants.{Before, After, Except}
use Rattle.interface.specs.declared.answers.UnknownKind.{UnknownKind}
use Rattle.interface.specs.declared.answers.LibraryAnswer.{LibraryAnswer}
use Rattle.interface.specs.declared.answers.LibraryAnswer.TheVariants.{Return, Raise}
use Rattle.interface.specs.declared.answers.PolicyAnswer.{PolicyAnswer}
use Rattle.interface.specs.declared.answers.PolicyAnswer.TheVariants.{Pass, Stop}

-- the number of a kind of question
abbrev pub kind_number : QuestionKind → ℕ
kind_number Before = 2
kind_number After = 3
kind_number Except = 4

-- the kind of a number, if there is one
abbrev pub kind_numbered : ℕ → Option QuestionKind
kind_numbered n = if n == 2 then Some Before else if n == 3 then Some After else if n == 4 then Some Except else None

-- what is printed where no kind has a number
abbrev pub unknown_text : UnknownKind → List ℕ
unknown_text e = codes "no kind of question has number " ++ decimal e.0

-- 0 for a return, 1 for a raise
abbrev pub library_flag : LibraryAnswer → ℕ
library_flag (Return n) = 0
library_flag (Raise c) = 1

-- the number recorded of a library's answer; where the method gives no value, a return is recorded as 0
abbrev pub library_number : Bool → LibraryAnswer → ℤ
library_number gives (Return n) = if gives then n else pos 0
library_number gives (Raise c) = c

-- 0 for a pass, 1 for a stop
abbrev pub policy_flag : PolicyAnswer → ℕ
policy_flag Pass = 0
policy_flag (Stop c) = 1

-- the number recorded of a policy's answer
abbrev pub policy_number : PolicyAnswer → ℤ
policy_number Pass = pos 0
policy_number (Stop c) = c
