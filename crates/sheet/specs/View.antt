-- A sheet as its reader sees it, whatever way it is stored. Assumes nothing.
use Rattle.std.specs.Prelude.{ℕ, ◌+◌, false, List, [], ◌∷◌, ◌++◌, length, slice_index_or}
use Rattle.sheet.specs.declared.records.Shape.{Shape}
use Rattle.sheet.specs.declared.records.Signature.{Signature}

-- an own method with its lists
pub record Method (I H : Type 0) : Type 0 where
  pub shape : Shape
  pub code : List I
  pub handlers : List H

-- a sheet: its library methods and its own
pub record Sheet (I H : Type 0) : Type 0 where
  pub library : List Signature
  pub methods : List (Method I H)

abbrev pub empty_sheet : {I H : Type 0} → Sheet I H
empty_sheet = record { library = []; methods = [] }

abbrev pub with_library : {I H : Type 0} → List Signature → Sheet I H → Sheet I H
with_library xs s = record { library = xs; methods = s.methods }

abbrev pub with_methods : {I H : Type 0} → List (Method I H) → Sheet I H → Sheet I H
with_methods ms s = record { library = s.library; methods = ms }

-- a change of the last method
abbrev pub on_last : {X : Type 0} → (X → X) → List X → List X
on_last f [] = []
on_last f (m ∷ []) = f m ∷ []
on_last f (m ∷ (n ∷ ms)) = m ∷ on_last f (n ∷ ms)

abbrev pub with_code : {I H : Type 0} → (List I → List I) → Method I H → Method I H
with_code f m = record { shape = m.shape; code = f m.code; handlers = m.handlers }

abbrev pub with_handlers : {I H : Type 0} → (List H → List H) → Method I H → Method I H
with_handlers f m = record { shape = m.shape; code = m.code; handlers = f m.handlers }

-- one more behind all
abbrev pub pushed : {X : Type 0} → X → List X → List X
pushed x xs = xs ++ x ∷ []

-- a method without instructions and handlers
abbrev pub bare : {I H : Type 0} → Shape → Method I H
bare s = record { shape = s; code = []; handlers = [] }

-- how many instructions some methods have
abbrev pub instructions_in : {I H : Type 0} → List (Method I H) → ℕ
instructions_in [] = 0
instructions_in (m ∷ ms) = length m.code + instructions_in ms

-- how many handlers some methods have
abbrev pub handlers_in : {I H : Type 0} → List (Method I H) → ℕ
handlers_in [] = 0
handlers_in (m ∷ ms) = length m.handlers + handlers_in ms

abbrev pub no_shape : Shape
no_shape = record { arguments = 0; gives = false; locals = 0; stack_limit = 0 }

-- what stands for a method where there is none
abbrev pub nobody : {I H : Type 0} → Method I H
nobody = bare no_shape

-- the method of a number, or nobody
abbrev pub method_at : {I H : Type 0} → Sheet I H → ℕ → Method I H
method_at s k = slice_index_or s.methods k nobody

abbrev pub last_method : {I H : Type 0} → List (Method I H) → Method I H
last_method [] = nobody
last_method (m ∷ []) = m
last_method (m ∷ (n ∷ ms)) = last_method (n ∷ ms)
