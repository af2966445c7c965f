-- What a checked sheet is, and how it grows. Assumes nothing.
use Rattle.std.specs.Prelude.{◌≡◌, ℕ, true, List, take, is_ok, Ok, Err, Result}
use Rattle.sheet.specs.Bounds.{every}
use Rattle.sheet.specs.Maps.{raised}
use Rattle.sheet.specs.Reading.{TextSheet}
use Rattle.sheet.specs.declared.instruction.Instruction.{Instruction}
use Rattle.sheet.specs.declared.location.PlainLocation.{PlainLocation}
use Rattle.sheet.specs.declared.records.Handler.{Handler}
use Rattle.sheet.specs.declared.records.ReadInstruction.{ReadInstruction}
use Rattle.sheet_store.specs.Adding.{whole}
use Rattle.check_rules.specs.Check.{CheckedMethod, CheckedForm, decoded_from, handled_from, effects, depths_of, method_checked, methods_checked, method_encoded, shapes_of}
use Rattle.check_rules.specs.Depths.{Depths, swept}
use Rattle.check_rules.specs.Places.{place_of}
use Rattle.check_rules.specs.declared.around.Around.{Around}
use Rattle.check_rules.specs.declared.faults.CheckFault.{CheckFault}
use Rattle.check_rules.specs.declared.faults.MethodFault.{MethodFault}
use Rattle.check_rules.specs.declared.faults.MethodFault.TheVariants.{Operand, Handler as AtHandler, Depth}

-- the instructions of a method, or the first whose operand means nothing
abbrev pub code_checked : Around → List ReadInstruction → Result (List (Instruction PlainLocation)) MethodFault
code_checked a rs = raised Operand (decoded_from (place_of a) 0 rs)

-- that the handlers of a method suit it, or the first that does not
abbrev pub handlers_checked : Around → List (Handler PlainLocation) → Result (Unit {0}) MethodFault
handlers_checked a xs = raised AtHandler (handled_from a.own.stack_limit a.count 0 xs)

-- all locations of a method taken upward with these depths, or the first that fails
abbrev pub depths_swept : Around → List (Instruction PlainLocation) → Depths → Result Depths MethodFault
depths_swept a is ds = raised Depth (swept (effects (place_of a) is) 0 a.own.stack_limit ds)

-- the depths of a method's locations, or the first that fails
abbrev pub depths_checked : Around → List (Instruction PlainLocation) → List (Handler PlainLocation) → Result Depths MethodFault
depths_checked a is xs = raised Depth (depths_of (place_of a) is xs)

-- a method with these instructions and handlers, checked
abbrev pub checked_in : Around → List ReadInstruction → List (Handler PlainLocation) → Result CheckedMethod MethodFault
checked_in a rs xs = method_checked a.library.now a.shapes.now (whole a.own rs xs)

-- every method of a sheet, as a text has it, passes the check
abbrev pub AllChecked : CheckedForm → Type 0
AllChecked s = every (λ c. is_ok (method_checked s.library (shapes_of s.methods) (method_encoded c))) s.methods ≡ true

-- the check of all methods of a sheet, as a text has it, refuses it with this fault
abbrev pub Refused : TextSheet → CheckFault → Type 0
Refused r f = methods_checked r.library (shapes_of r.methods) 0 r.methods ≡ Err f

-- a sheet whose methods are what the check makes of the first k of another
pub record MadeUpTo (r : TextSheet) (k : ℕ) (s : CheckedForm) : Type 0 where
  pub library : s.library ≡ r.library
  pub methods : methods_checked r.library (shapes_of r.methods) 0 (take k r.methods) ≡ Ok s.methods
