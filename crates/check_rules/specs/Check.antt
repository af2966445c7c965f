-- The check of a sheet: the checked sheet, or the lowest method that is refused with the first of its faults. Assumes nothing.
use Rattle.std.specs.Prelude.{ℕ, suc, ◌+◌, List, [], ◌∷◌, map, length, Ok, Err, Result, ok_or, nat_lt, if◌then◌else◌}
use Rattle.sheet.specs.Maps.{and_then, raised}
use Rattle.sheet.specs.Reading.{TextSheet, none}
use Rattle.sheet.specs.View.{Method, Sheet}
use Rattle.sheet.specs.declared.instruction.Instruction.{Instruction}
use Rattle.sheet.specs.declared.location.PlainLocation.{PlainLocation}
use Rattle.sheet.specs.declared.records.Handler.{Handler}
use Rattle.sheet.specs.declared.records.ReadInstruction.{ReadInstruction}
use Rattle.sheet.specs.declared.records.Shape.{Shape}
use Rattle.sheet.specs.declared.records.Signature.{Signature}
use Rattle.check_rules.specs.Coding.{decoded, encoded}
use Rattle.check_rules.specs.Depths.{Depths, swept, begun}
use Rattle.check_rules.specs.Effects.{Place, effect_of}
use Rattle.check_rules.specs.Places.{plain}
use Rattle.check_rules.specs.Ranges.{handles}
use Rattle.check_rules.specs.declared.effect.Effect.{Effect}
use Rattle.check_rules.specs.declared.faults.CheckFault.{CheckFault}
use Rattle.check_rules.specs.declared.faults.CheckFault.TheVariants.{NoMethod, Method as InMethod}
use Rattle.check_rules.specs.declared.faults.MethodFault.{MethodFault}
use Rattle.check_rules.specs.declared.faults.MethodFault.TheVariants.{NoInstruction, TooManyCells, Operand, Handler as AtHandler, Depth}

-- methods and sheets as they are read, and as they are when checked
abbrev pub ReadMethod : Type 0
ReadMethod = Method ReadInstruction (Handler PlainLocation)

abbrev pub CheckedMethod : Type 0
CheckedMethod = Method (Instruction PlainLocation) (Handler PlainLocation)

abbrev pub CheckedForm : Type 0
CheckedForm = Sheet (Instruction PlainLocation) (Handler PlainLocation)

-- the instructions of a method from a location on, or the first whose operand means nothing
abbrev pub decoded_from : Place → ℕ → List ReadInstruction → Result (List (Instruction PlainLocation)) ℕ
decoded_from p at [] = Ok []
decoded_from p at (r ∷ rs) = and_then (ok_or (decoded p r) at) (λ i. and_then (decoded_from p (suc at) rs) (λ is. Ok (i ∷ is)))

-- that the handlers of a method suit it, from one on, or the first that does not
abbrev pub handled_from : ℕ → ℕ → ℕ → List (Handler PlainLocation) → Result (Unit {0}) ℕ
handled_from limit n at [] = Ok tt
handled_from limit n at (x ∷ xs) = if handles limit n x then handled_from limit n (suc at) xs else Err at

-- where the catch ranges of some handlers begin
abbrev pub catches : List (Handler PlainLocation) → List ℕ
catches xs = map (λ x. x.catch_begin.number) xs

-- the effects of some instructions
abbrev pub effects : Place → List (Instruction PlainLocation) → List Effect
effects p is = map (effect_of plain p) is

-- the depths of a method's locations, or the first location that fails
abbrev pub depths_of : Place → List (Instruction PlainLocation) → List (Handler PlainLocation) → Result Depths ℕ
depths_of p is xs = swept (effects p is) 0 p.own.stack_limit (begun (catches xs) (length is))

-- what is known around the instructions of a method of this shape with n instructions
abbrev pub place_in : List Signature → List Shape → Shape → ℕ → Place
place_in library shapes own n = record { library = library; shapes = shapes; own = own; count = n }

-- a checked method, or the first of its faults: no instruction, too many cells, operands, handlers, depths
abbrev pub method_checked : List Signature → List Shape → ReadMethod → Result CheckedMethod MethodFault
method_checked library shapes m =
    let p = place_in library shapes m.shape (length m.code) in
    if none m.code then Err NoInstruction
    else if nat_lt 256 (m.shape.arguments + m.shape.locals + m.shape.stack_limit) then Err TooManyCells
    else and_then (raised Operand (decoded_from p 0 m.code)) (λ is.
    and_then (raised AtHandler (handled_from m.shape.stack_limit (length m.code) 0 m.handlers)) (λ _.
    and_then (raised Depth (depths_of p is m.handlers)) (λ _.
    Ok (record { shape = m.shape; code = is; handlers = m.handlers }))))

-- the methods from the k-th on, upward
abbrev pub methods_checked : List Signature → List Shape → ℕ → List ReadMethod → Result (List CheckedMethod) CheckFault
methods_checked library shapes k [] = Ok []
methods_checked library shapes k (m ∷ ms) = and_then (raised (InMethod k) (method_checked library shapes m)) (λ c. and_then (methods_checked library shapes (suc k) ms) (λ cs. Ok (c ∷ cs)))

-- the shapes of some methods
abbrev pub shapes_of : {I H : Type 0} → List (Method I H) → List Shape
shapes_of ms = map (λ m. m.shape) ms

-- what the check of a sheet answers
abbrev pub checked : TextSheet → Result CheckedForm CheckFault
checked s = if none s.methods then Err NoMethod else and_then (methods_checked s.library (shapes_of s.methods) 0 s.methods) (λ cs. Ok (record { library = s.library; methods = cs }))

-- a method and a sheet as a text has them
abbrev pub method_encoded : CheckedMethod → ReadMethod
method_encoded m = record { shape = m.shape; code = map (encoded plain) m.code; handlers = m.handlers }

abbrev pub sheet_encoded : CheckedForm → TextSheet
sheet_encoded s = record { library = s.library; methods = map method_encoded s.methods }
