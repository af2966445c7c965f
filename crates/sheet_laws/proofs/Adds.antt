-- A line that may stand where it does, and a list with or without anything in it. Assumes nothing.
use Rattle.std.proofs.Common.{◌≡◌, ℕ, ◌<◌, true, false, List, [], ◌∷◌, length, Ok, refl, arith}
use Rattle.sheet.specs.Reading.{TextSheet, none, added, counted}
use Rattle.sheet.specs.View.{with_library, with_methods, on_last, with_code, with_handlers, pushed, bare, instructions_in, handlers_in, last_method}
use Rattle.sheet.specs.declared.location.PlainLocation.{PlainLocation}
use Rattle.sheet.specs.declared.faults.Counted.{Counted}
use Rattle.sheet.specs.declared.records.Handler.{Handler}
use Rattle.sheet.specs.declared.records.Line.TheVariants.{Library, Method, Instruction, Handler as OfHandler}
use Rattle.sheet.specs.declared.records.ReadInstruction.{ReadInstruction}
use Rattle.sheet.specs.declared.records.Shape.{Shape}
use Rattle.sheet.specs.declared.records.Signature.{Signature}

pub none_there : {X : Type 0} (xs : List X) → length xs ≡ 0 → none xs ≡ true
none_there [] e = refl
none_there (x ∷ xs) e = absurd (omega arith)

pub some_there : {X : Type 0} (xs : List X) → 0 < length xs → none xs ≡ false
some_there [] h = absurd (omega arith)
some_there (x ∷ xs) h = refl

pub counted_ok : (what : Counted) (n most : ℕ) (s : TextSheet) → n < most → counted what n most s ≡ Ok s
counted_ok what n most s h = grind arith

module _ (s : TextSheet) where
  pub signature_ok : (x : Signature) → none s.methods ≡ true → length s.library < 32 → added s (Library x) ≡ Ok (with_library (pushed x s.library) s)
  signature_ok x n h = grind arith

  pub shape_ok : (x : Shape) → length s.methods < 16 → added s (Method x) ≡ Ok (with_methods (pushed (bare x) s.methods) s)
  shape_ok x h = counted_ok _ _ 16 _ h

  pub instruction_ok : (x : ReadInstruction) → none s.methods ≡ false → none (last_method s.methods).handlers ≡ true → instructions_in s.methods < 2048 → added s (Instruction x) ≡ Ok (with_methods (on_last (with_code (pushed x)) s.methods) s)
  instruction_ok x n l h = grind arith

  pub handler_ok : (x : Handler PlainLocation) → none s.methods ≡ false → handlers_in s.methods < 256 → added s (OfHandler x) ≡ Ok (with_methods (on_last (with_handlers (pushed x)) s.methods) s)
  handler_ok x n h = grind arith
