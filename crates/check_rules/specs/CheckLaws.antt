-- What the check of a method, and of a sheet, means. Assumes nothing.
use Rattle.std.specs.Prelude.{◌≡◌, ℕ, ◌+◌, ◌<◌, ◌≤◌, true, ◌⊎◌, List, map, length, Some, None, Ok, All, slice_index_or}
use Rattle.sheet.specs.Reading.{TextSheet}
use Rattle.sheet.specs.declared.records.Shape.{Shape}
use Rattle.sheet.specs.declared.records.Signature.{Signature}
use Rattle.check_rules.specs.Check.{ReadMethod, CheckedMethod, CheckedForm, catches, effects, place_in, method_checked, method_encoded, shapes_of, checked, sheet_encoded}
use Rattle.check_rules.specs.Coding.{decoded, encoded}
use Rattle.check_rules.specs.Depths.{Depths}
use Rattle.check_rules.specs.Effects.{Place}
use Rattle.check_rules.specs.Meaning.{Typed, FromBelow, Among}
use Rattle.check_rules.specs.Places.{plain}
use Rattle.check_rules.specs.Ranges.{handles}

-- what is known around the instructions of a checked method
abbrev pub place_of_method : List Signature → List Shape → CheckedMethod → Place
place_of_method library shapes m = place_in library shapes m.shape (length m.code)

-- a method that cannot go wrong
pub record Passed (library : List Signature) (shapes : List Shape) (m : CheckedMethod) : Type 0 where
  -- it has an instruction, and its arguments, locals and stack have at most 256 cells
  pub some : 0 < length m.code
  pub cells : m.shape.arguments + m.shape.locals + m.shape.stack_limit ≤ 256
  -- every operand means what the instruction carries
  pub operands : map (decoded (place_of_method library shapes m)) (map (encoded plain) m.code) ≡ map Some m.code
  -- every handler suits the method
  pub handlers : All (λ x. handles m.shape.stack_limit (length m.code) x ≡ true) m.handlers
  -- there is one depth for each location, under which every instruction is sound
  pub depths : Depths
  pub long : length depths ≡ length m.code
  pub typed : Typed m.shape.stack_limit (effects (place_of_method library shapes m) m.code) (catches m.handlers) depths
  -- and it is 0, or that of a catch begin, or a lower instruction leads there
  pub below : (l d : ℕ) → slice_index_or depths l None ≡ Some d → (d ≡ 0) ⊎ (Among l (catches m.handlers) ⊎ FromBelow (effects (place_of_method library shapes m) m.code) 0 l)

-- a method is checked exactly when it cannot go wrong in this sense; and it is the one that was read
pub record MethodLaw (library : List Signature) (shapes : List Shape) (m : CheckedMethod) : Type 0 where
  pub means : (r : ReadMethod) → method_checked library shapes r ≡ Ok m → (method_encoded m ≡ r) × Passed library shapes m
  pub passes : Passed library shapes m → method_checked library shapes (method_encoded m) ≡ Ok m

abbrev pub CheckLaw : Type 0
CheckLaw = (library : List Signature) (shapes : List Shape) (m : CheckedMethod) → MethodLaw library shapes m

-- no method of a sheet can go wrong
abbrev pub AllPassed : CheckedForm → Type 0
AllPassed s = All (Passed s.library (shapes_of s.methods)) s.methods

-- a sheet is checked exactly when it has a method and none that can go wrong; and it is the one that was read
pub record SheetLaw (s : CheckedForm) : Type 0 where
  pub means : (r : TextSheet) → checked r ≡ Ok s → (sheet_encoded s ≡ r) × (0 < length s.methods) × AllPassed s
  pub passes : 0 < length s.methods → AllPassed s → checked (sheet_encoded s) ≡ Ok s
