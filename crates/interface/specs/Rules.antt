-- What a library or a policy means: a rule over its states. Assumes nothing.
use Rattle.std.specs.Prelude.{ℕ, List}
use Rattle.interface.specs.declared.value.Value.{Value}
use Rattle.interface.specs.declared.answers.QuestionKind.{QuestionKind}
use Rattle.interface.specs.declared.answers.LibraryAnswer.{LibraryAnswer}
use Rattle.interface.specs.declared.answers.PolicyAnswer.{PolicyAnswer}

-- one answer and one next state for each state, method and list of values
abbrev pub LibraryRule : Type 0 → Type 0
LibraryRule State = State → ℕ → List Value → LibraryAnswer × State

-- one answer and one next state for each state, kind of question, method and list of values
abbrev pub PolicyRule : Type 0 → Type 0
PolicyRule State = State → QuestionKind → ℕ → List Value → PolicyAnswer × State
