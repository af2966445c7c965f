-- Raises, and methods with one or two arguments. Assumes nothing.
use Rattle.std.specs.Prelude.{ℕ, Bool, false, if◌then◌else◌, List, [], ◌∷◌, ℤ, pos, int_le}
use Rattle.interface.specs.Values.{number_of}
use Rattle.interface.specs.declared.value.Value.{Value}
use Rattle.interface.specs.declared.answers.LibraryAnswer.{LibraryAnswer}
use Rattle.interface.specs.declared.answers.LibraryAnswer.TheVariants.{Return, Raise}

-- an answer and the state after it
abbrev pub Step : Type 0 → Type 0
Step State = LibraryAnswer × State

-- a raise leaves the state
abbrev pub raise : {State : Type 0} → ℕ → State → Step State
raise code s = (Raise (pos code), s)

-- a return of 0, by a method that gives no value
abbrev pub done : {State : Type 0} → State → Step State
done s = (Return (pos 0), s)

-- two numbers are the same
abbrev pub same : ℤ → ℤ → Bool
same a b = if int_le a b then int_le b a else false

-- what a method of one argument does; 8 is raised for another count of values
abbrev pub with_one : {State : Type 0} → State → (ℤ → Step State) → List Value → Step State
with_one s f [] = raise 8 s
with_one s f (v ∷ []) = f (number_of v)
with_one s f (v ∷ (w ∷ more)) = raise 8 s

-- what a method of two arguments does; 8 is raised for another count of values
abbrev pub with_two : {State : Type 0} → State → (ℤ → ℤ → Step State) → List Value → Step State
with_two s f [] = raise 8 s
with_two s f (v ∷ []) = raise 8 s
with_two s f (v ∷ (w ∷ [])) = f (number_of v) (number_of w)
with_two s f (v ∷ (w ∷ (x ∷ more))) = raise 8 s
