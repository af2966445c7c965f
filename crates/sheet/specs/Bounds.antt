-- The sheets that a text can say: every number is one that its field may hold, and no count is exceeded. Assumes nothing.
use Rattle.std.specs.Prelude.{Bool, true, false, ◌&&◌, List, [], ◌∷◌, length, ℤ, nat_le}
use Rattle.sheet.specs.Columns.{allowed}
use Rattle.sheet.specs.Fields.{fields_of}
use Rattle.sheet.specs.Reading.{TextSheet}
use Rattle.sheet.specs.Text.{signature_numbers, shape_numbers, instruction_numbers, handler_numbers}
use Rattle.sheet.specs.View.{Method, instructions_in, handlers_in}
use Rattle.sheet.specs.declared.location.PlainLocation.{PlainLocation}
use Rattle.sheet.specs.declared.fields.Field.{Field}
use Rattle.sheet.specs.declared.fields.Letter.TheVariants.{L, M, I, X}
use Rattle.sheet.specs.declared.records.Handler.{Handler}
use Rattle.sheet.specs.declared.records.ReadInstruction.{ReadInstruction}

-- a test passes at each of a list
abbrev pub every : {X : Type 0} → (X → Bool) → List X → Bool
every test [] = true
every test (x ∷ xs) = test x && every test xs

-- there is a number for each field, and it is one that the field may hold
abbrev pub all_allowed : List Field → List ℤ → Bool
all_allowed [] [] = true
all_allowed [] (z ∷ zs) = false
all_allowed (f ∷ fs) [] = false
all_allowed (f ∷ fs) (z ∷ zs) = allowed f z && all_allowed fs zs

-- a method whose numbers are all allowed
abbrev pub method_allowed : Method ReadInstruction (Handler PlainLocation) → Bool
method_allowed m = all_allowed (fields_of M) (shape_numbers m.shape) && (every (λ x. all_allowed (fields_of I) (instruction_numbers x)) m.code && every (λ x. all_allowed (fields_of X) (handler_numbers x)) m.handlers)

-- no more of anything than a sheet may have
abbrev pub few_enough : TextSheet → Bool
few_enough s = nat_le (length s.library) 32 && (nat_le (length s.methods) 16 && (nat_le (instructions_in s.methods) 2048 && nat_le (handlers_in s.methods) 256))

-- a sheet that a text can say
abbrev pub in_range : TextSheet → Bool
in_range s = few_enough s && (every (λ x. all_allowed (fields_of L) (signature_numbers x)) s.library && every method_allowed s.methods)
