-- When two libraries or two policies are equal, and what follows from it. Assumes nothing.
use Rattle.std.specs.Prelude.{◌≡◌, ℕ, List, [], ◌∷◌}
use Rattle.interface.specs.Rules.{LibraryRule, PolicyRule}
use Rattle.interface.specs.declared.value.Value.{Value}
use Rattle.interface.specs.declared.answers.QuestionKind.{QuestionKind}
use Rattle.interface.specs.declared.answers.LibraryAnswer.{LibraryAnswer}
use Rattle.interface.specs.declared.answers.PolicyAnswer.{PolicyAnswer}

-- two parties are equal if their rules and their states are, whatever way they are stored
pub record Equal {Rule State : Type 0} (rule₁ rule₂ : Rule) (state₁ state₂ : State) : Type 0 where
  pub rules : rule₁ ≡ rule₂
  pub states : state₁ ≡ state₂

-- the answers of a step to some inputs in order
abbrev pub answers : {State In Out : Type 0} → (State → In → Out × State) → State → List In → List Out
answers step s [] = []
answers step s (x ∷ xs) = (step s x).0 ∷ answers step (step s x).1 xs

-- the state after some inputs in order
abbrev pub after : {State In Out : Type 0} → (State → In → Out × State) → State → List In → State
after step s [] = s
after step s (x ∷ xs) = after step (step s x).1 xs

-- parties with equal rules and states give the same answers to every list of inputs and are equal after it
abbrev pub StayEqual : {Rule State In Out : Type 0} → (Rule → State → List In → List Out) → (Rule → State → List In → State) → Type 0
StayEqual {Rule} {State} {In} answers_of state_after =
    (rule₁ rule₂ : Rule) (s₁ s₂ : State) (xs : List In) → Equal rule₁ rule₂ s₁ s₂
    → (answers_of rule₁ s₁ xs ≡ answers_of rule₂ s₂ xs)
    × Equal rule₁ rule₂ (state_after rule₁ s₁ xs) (state_after rule₂ s₂ xs)

-- a call: a method and its values
abbrev pub Call : Type 0
Call = ℕ × List Value

-- what a rule does at a call
abbrev pub library_step : {State : Type 0} → LibraryRule State → State → Call → LibraryAnswer × State
library_step rule s call = rule s call.0 call.1

-- the answers of a rule to some calls in order
abbrev pub library_answers : {State : Type 0} → LibraryRule State → State → List Call → List LibraryAnswer
library_answers rule = answers (library_step rule)

-- the state after some calls in order
abbrev pub library_after : {State : Type 0} → LibraryRule State → State → List Call → State
library_after rule = after (library_step rule)

-- equal libraries give the same answers to every list of calls and are equal after it
abbrev pub LibrariesStayEqual : Type 0 → Type 0
LibrariesStayEqual State = StayEqual (library_answers {State = State}) library_after

-- a question: its kind, the method and the values
abbrev pub Question : Type 0
Question = QuestionKind × (ℕ × List Value)

-- what a rule does at a question
abbrev pub policy_step : {State : Type 0} → PolicyRule State → State → Question → PolicyAnswer × State
policy_step rule s question = rule s question.0 question.1.0 question.1.1

-- the answers of a rule to some questions in order
abbrev pub policy_answers : {State : Type 0} → PolicyRule State → State → List Question → List PolicyAnswer
policy_answers rule = answers (policy_step rule)

-- the state after some questions in order
abbrev pub policy_after : {State : Type 0} → PolicyRule State → State → List Question → State
policy_after rule = after (policy_step rule)

-- equal policies give the same answers to every list of questions and are equal after it
abbrev pub PoliciesStayEqual : Type 0 → Type 0
PoliciesStayEqual State = StayEqual (policy_answers {State = State}) policy_after
