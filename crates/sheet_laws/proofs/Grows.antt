-- A sheet with one line more: its text and its bounds. Assumes nothing.
use Rattle.std.proofs.Common.{◌≡◌, ℕ, suc, ◌+◌, ◌<◌, ◌≤◌, Bool, true, false, cond, List, [], ◌∷◌, ◌++◌, length, Ok, Err, Result, sym, refl, ap, ◌∙◌, subst, arith}
use Rattle.std.specs.List.{flat_map}
use Rattle.std.proofs.lemmas.List.{append_assoc, append-nil, length_push, flat_map_more}
use Rattle.std.proofs.lemmas.Bool.{and_parts, and_from}
use Rattle.sheet.specs.Bounds.{every, all_allowed, method_allowed, few_enough, in_range}
use Rattle.sheet.specs.Fields.{fields_of}
use Rattle.sheet.specs.Reading.{TextSheet, none, counted, added}
use Rattle.sheet.specs.Text.{signature_numbers, shape_numbers, instruction_numbers, handler_numbers, signature_text, shape_text, instruction_text, handler_text, method_text, sheet_text}
use Rattle.sheet.specs.View.{Method, with_library, with_methods, on_last, with_code, with_handlers, pushed, bare, instructions_in, handlers_in, last_method}
use Rattle.sheet.specs.declared.location.PlainLocation.{PlainLocation}
use Rattle.sheet.specs.declared.faults.Counted.{Counted}
use Rattle.sheet.specs.declared.faults.LineFault.{LineFault}
use Rattle.sheet.specs.declared.fields.Letter.TheVariants.{L, M, I, X}
use Rattle.sheet.specs.declared.records.Handler.{Handler}
use Rattle.sheet.specs.declared.records.Line.{Line}
use Rattle.sheet.specs.declared.records.Line.TheVariants.{Library, Method as OwnMethod, Instruction, Handler as ItsHandler}
use Rattle.sheet.specs.declared.records.ReadInstruction.{ReadInstruction}
use Rattle.sheet.specs.declared.records.Shape.{Shape}
use Rattle.sheet.specs.declared.records.Signature.{Signature}
use Rattle.sheet_laws.proofs.Says.{text_of, permitted}

-- an own method as a text has it
abbrev pub TextMethod : Type 0
TextMethod = Method ReadInstruction (Handler PlainLocation)

-- the tests of the parts of a sheet
abbrev pub signature_fits : Signature → Bool
signature_fits x = all_allowed (fields_of L) (signature_numbers x)

abbrev pub instruction_fits : ReadInstruction → Bool
instruction_fits x = all_allowed (fields_of I) (instruction_numbers x)

abbrev pub handler_fits : Handler PlainLocation → Bool
handler_fits x = all_allowed (fields_of X) (handler_numbers x)

-- what the tests say of a sheet
pub record Within (s : TextSheet) : Type 0 where
  pub signatures : length s.library ≤ 32
  pub methods : length s.methods ≤ 16
  pub instructions : instructions_in s.methods ≤ 2048
  pub handlers : handlers_in s.methods ≤ 256
  pub library : every signature_fits s.library ≡ true
  pub own : every method_allowed s.methods ≡ true

pub within_from : (s : TextSheet) → in_range s ≡ true → Within s
within_from s e = let p = and_parts (few_enough s) _ e in grind arith

pub within_to : (s : TextSheet) → Within s → in_range s ≡ true
within_to s w = grind arith

-- one more at the end
pub every_push : {X : Type 0} (test : X → Bool) (xs : List X) (x : X) → every test xs ≡ true → test x ≡ true → every test (xs ++ x ∷ []) ≡ true
every_push test [] x e h = and_from (test x) true h refl
every_push test (y ∷ xs) x e h = grind (arith, every_push test xs x)

every_last : {X : Type 0} (test : X → Bool) (f : X → X) (xs : List X) → ((x : X) → test x ≡ true → test (f x) ≡ true) → every test xs ≡ true → every test (on_last f xs) ≡ true
every_last test f [] k e = refl
every_last test f (x ∷ []) k e = let p = and_parts (test x) true e in and_from (test (f x)) true (k x p.0) refl
every_last test f (x ∷ (y ∷ xs)) k e = let p = and_parts (test x) (every test (y ∷ xs)) e in and_from (test x) _ p.0 (every_last test f (y ∷ xs) k p.1)

length_last : {X : Type 0} (f : X → X) (xs : List X) → length (on_last f xs) ≡ length xs
length_last f [] = refl
length_last f (x ∷ []) = refl
length_last f (x ∷ (y ∷ xs)) = ap suc (length_last f (y ∷ xs))

-- a method with one record more
code_fits : (x : ReadInstruction) → instruction_fits x ≡ true → (m : TextMethod) → method_allowed m ≡ true → method_allowed (with_code (pushed x) m) ≡ true
code_fits x h m e =
    let p = and_parts (all_allowed (fields_of M) (shape_numbers m.shape)) _ e in
    let q = and_parts (every instruction_fits m.code) (every handler_fits m.handlers) p.1 in
    and_from _ _ p.0 (and_from _ _ (every_push instruction_fits m.code x q.0 h) q.1)

handlers_fit : (x : Handler PlainLocation) → handler_fits x ≡ true → (m : TextMethod) → method_allowed m ≡ true → method_allowed (with_handlers (pushed x) m) ≡ true
handlers_fit x h m e =
    let p = and_parts (all_allowed (fields_of M) (shape_numbers m.shape)) _ e in
    let q = and_parts (every instruction_fits m.code) (every handler_fits m.handlers) p.1 in
    and_from _ _ p.0 (and_from _ _ q.0 (every_push handler_fits m.handlers x q.1 h))

-- counts after one record more
pub instructions_push : (ms : List TextMethod) (m : TextMethod) → instructions_in (ms ++ m ∷ []) ≡ instructions_in ms + length m.code
instructions_push [] m = omega arith
instructions_push (n ∷ ms) m = let r = instructions_push ms m in omega arith

pub handlers_push : (ms : List TextMethod) (m : TextMethod) → handlers_in (ms ++ m ∷ []) ≡ handlers_in ms + length m.handlers
handlers_push [] m = omega arith
handlers_push (n ∷ ms) m = let r = handlers_push ms m in omega arith

instructions_code : (x : ReadInstruction) (ms : List TextMethod) → instructions_in (on_last (with_code (pushed x)) ms) ≤ suc (instructions_in ms)
instructions_code x [] = omega arith
instructions_code x (m ∷ []) = let l = length_push m.code x in omega arith
instructions_code x (m ∷ (n ∷ ms)) = let r = instructions_code x (n ∷ ms) in omega arith

handlers_code : (x : ReadInstruction) (ms : List TextMethod) → handlers_in (on_last (with_code (pushed x)) ms) ≡ handlers_in ms
handlers_code x [] = refl
handlers_code x (m ∷ []) = refl
handlers_code x (m ∷ (n ∷ ms)) = ap (λ k. length m.handlers + k) (handlers_code x (n ∷ ms))

handlers_handler : (x : Handler PlainLocation) (ms : List TextMethod) → handlers_in (on_last (with_handlers (pushed x)) ms) ≤ suc (handlers_in ms)
handlers_handler x [] = omega arith
handlers_handler x (m ∷ []) = let l = length_push m.handlers x in omega arith
handlers_handler x (m ∷ (n ∷ ms)) = let r = handlers_handler x (n ∷ ms) in omega arith

instructions_handler : (x : Handler PlainLocation) (ms : List TextMethod) → instructions_in (on_last (with_handlers (pushed x)) ms) ≡ instructions_in ms
instructions_handler x [] = refl
instructions_handler x (m ∷ []) = refl
instructions_handler x (m ∷ (n ∷ ms)) = ap (λ k. length m.code + k) (instructions_handler x (n ∷ ms))

-- the text after one record more
no_handlers : (m : TextMethod) → none m.handlers ≡ true → flat_map handler_text m.handlers ≡ []
no_handlers m e = by_list m.handlers e
  where
    by_list : (xs : List (Handler PlainLocation)) → none xs ≡ true → flat_map handler_text xs ≡ []
    by_list [] h = refl
    by_list (x ∷ xs) h = cc

code_text_lem : (x : ReadInstruction) (m : TextMethod) → none m.handlers ≡ true → method_text (with_code (pushed x) m) ≡ method_text m ++ instruction_text x
code_text_lem x m e =
    let s = shape_text m.shape in
    let t = flat_map instruction_text m.code in
    let n = no_handlers m e in
    ap (λ u. s ++ (flat_map instruction_text (m.code ++ x ∷ []) ++ u)) n
    ∙ ap (λ u. s ++ u) (append-nil (flat_map instruction_text (m.code ++ x ∷ [])) ∙ sym (flat_map_more instruction_text [] m.code x) ∙ ap (λ u. u ++ instruction_text x) (sym (append-nil t) ∙ ap (λ u. t ++ u) (sym n)))
    ∙ sym (append_assoc s (t ++ flat_map handler_text m.handlers) (instruction_text x))

handler_text_lem : (x : Handler PlainLocation) (m : TextMethod) → method_text (with_handlers (pushed x) m) ≡ method_text m ++ handler_text x
handler_text_lem x m =
    let s = shape_text m.shape in
    let t = flat_map instruction_text m.code in
    let u = flat_map handler_text m.handlers in
    ap (λ v. s ++ (t ++ v)) (sym (flat_map_more handler_text [] m.handlers x)) ∙ ap (λ v. s ++ v) (sym (append_assoc t u (handler_text x))) ∙ sym (append_assoc s (t ++ u) (handler_text x))

-- a change at the end of the last method is one at the end of the text
last_text : (f : TextMethod → TextMethod) (more : List ℕ) (ms : List TextMethod) → none ms ≡ false → method_text (f (last_method ms)) ≡ method_text (last_method ms) ++ more → flat_map method_text (on_last f ms) ≡ flat_map method_text ms ++ more
last_text f more [] n e = cc
last_text f more (m ∷ []) n e = append-nil (method_text (f m)) ∙ e ∙ ap (λ t. t ++ more) (sym (append-nil (method_text m)))
last_text f more (m ∷ (k ∷ ms)) n e = ap (λ t. method_text m ++ t) (last_text f more (k ∷ ms) refl e) ∙ sym (append_assoc (method_text m) (flat_map method_text (k ∷ ms)) more)

bare_text : (x : Shape) → method_text (bare x) ≡ shape_text x
bare_text x = append-nil (shape_text x)

-- what may be counted once more
counted_is : (what : Counted) (n most : ℕ) (s t : TextSheet) → counted what n most s ≡ Ok t → (n < most) × (s ≡ t)
counted_is what n most s t e = grind arith

-- a chosen way that came to an end
if_ok : {A : Type 0} (b : Bool) (x y : Result A LineFault) (a : A) (f : LineFault) → y ≡ Err f → cond b x y ≡ Ok a → (b ≡ true) × (x ≡ Ok a)
if_ok b x y a f e h = grind arith

if_not : {A : Type 0} (b : Bool) (x y : Result A LineFault) (a : A) (f : LineFault) → x ≡ Err f → cond b x y ≡ Ok a → (b ≡ false) × (y ≡ Ok a)
if_not b x y a f e h = grind arith

none_nil : {X : Type 0} (xs : List X) → none xs ≡ true → xs ≡ []
none_nil [] e = refl
none_nil (x ∷ xs) e = cc

-- a sheet that took a line has its text with that line behind it, and is still within the bounds
pub record Grown (s t : TextSheet) (x : Line) : Type 0 where
  pub text : sheet_text t ≡ sheet_text s ++ text_of x
  pub bounds : Within t

library_grown : (s t : TextSheet) (x : Signature) → Within s → signature_fits x ≡ true → added s (Library x) ≡ Ok t → Grown s t (Library x)
library_grown s t x w h e =
    let a = if_ok (none s.methods) _ _ t _ refl e in
    let b = counted_is _ (length s.library) 32 _ t a.1 in
    let n = none_nil s.methods a.0 in
    let l = length_push s.library x in
    let j = ap (flat_map method_text) n in
    let text : sheet_text (with_library (pushed x s.library) s) ≡ sheet_text s ++ signature_text x = ap (λ u. flat_map signature_text (s.library ++ x ∷ []) ++ u) j ∙ append-nil _ ∙ sym (flat_map_more signature_text [] s.library x) ∙ ap (λ u. u ++ signature_text x) (sym (append-nil _) ∙ ap (λ u. flat_map signature_text s.library ++ u) (sym j)) in
    let grown : Grown s (with_library (pushed x s.library) s) (Library x) = record { text = text; bounds = record { signatures = omega arith; methods = w.methods; instructions = w.instructions; handlers = w.handlers; library = every_push signature_fits s.library x w.library h; own = w.own } } in
    subst (λ y. Grown s y (Library x)) b.1 grown

method_grown : (s t : TextSheet) (x : Shape) → Within s → all_allowed (fields_of M) (shape_numbers x) ≡ true → added s (OwnMethod x) ≡ Ok t → Grown s t (OwnMethod x)
method_grown s t x w h e =
    let b = counted_is _ (length s.methods) 16 _ t e in
    let l = length_push s.methods (bare x) in
    let i = instructions_push s.methods (bare x) in
    let g = handlers_push s.methods (bare x) in
    let text : sheet_text (with_methods (pushed (bare x) s.methods) s) ≡ sheet_text s ++ shape_text x = ap (λ u. flat_map signature_text s.library ++ u) (sym (flat_map_more method_text [] s.methods (bare x)) ∙ ap (λ u. flat_map method_text s.methods ++ u) (bare_text x)) ∙ sym (append_assoc (flat_map signature_text s.library) (flat_map method_text s.methods) (shape_text x)) in
    let grown : Grown s (with_methods (pushed (bare x) s.methods) s) (OwnMethod x) = record { text = text; bounds = record { signatures = w.signatures; methods = omega arith; instructions = omega (arith, w.instructions); handlers = omega (arith, w.handlers); library = w.library; own = every_push method_allowed s.methods (bare x) w.own (and_from _ true h refl) } } in
    subst (λ y. Grown s y (OwnMethod x)) b.1 grown

instruction_grown : (s t : TextSheet) (x : ReadInstruction) → Within s → instruction_fits x ≡ true → added s (Instruction x) ≡ Ok t → Grown s t (Instruction x)
instruction_grown s t x w h e =
    let a = if_not (none s.methods) _ _ t _ refl e in
    let c = if_ok (none (last_method s.methods).handlers) _ _ t _ refl a.1 in
    let b = counted_is _ (instructions_in s.methods) 2048 _ t c.1 in
    let f = with_code (pushed x) in
    let l = length_last f s.methods in
    let i = instructions_code x s.methods in
    let g = handlers_code x s.methods in
    let text : sheet_text (with_methods (on_last f s.methods) s) ≡ sheet_text s ++ instruction_text x = ap (λ u. flat_map signature_text s.library ++ u) (last_text f (instruction_text x) s.methods a.0 (code_text_lem x (last_method s.methods) c.0)) ∙ sym (append_assoc (flat_map signature_text s.library) (flat_map method_text s.methods) (instruction_text x)) in
    let grown : Grown s (with_methods (on_last f s.methods) s) (Instruction x) = record { text = text; bounds = record { signatures = w.signatures; methods = omega (arith, w.methods); instructions = omega arith; handlers = omega (arith, w.handlers); library = w.library; own = every_last method_allowed f s.methods (code_fits x h) w.own } } in
    subst (λ y. Grown s y (Instruction x)) b.1 grown

handler_grown : (s t : TextSheet) (x : Handler PlainLocation) → Within s → handler_fits x ≡ true → added s (ItsHandler x) ≡ Ok t → Grown s t (ItsHandler x)
handler_grown s t x w h e =
    let a = if_not (none s.methods) _ _ t _ refl e in
    let b = counted_is _ (handlers_in s.methods) 256 _ t a.1 in
    let f = with_handlers (pushed x) in
    let l = length_last f s.methods in
    let i = instructions_handler x s.methods in
    let g = handlers_handler x s.methods in
    let text : sheet_text (with_methods (on_last f s.methods) s) ≡ sheet_text s ++ handler_text x = ap (λ u. flat_map signature_text s.library ++ u) (last_text f (handler_text x) s.methods a.0 (handler_text_lem x (last_method s.methods))) ∙ sym (append_assoc (flat_map signature_text s.library) (flat_map method_text s.methods) (handler_text x)) in
    let grown : Grown s (with_methods (on_last f s.methods) s) (ItsHandler x) = record { text = text; bounds = record { signatures = w.signatures; methods = omega (arith, w.methods); instructions = omega (arith, w.instructions); handlers = omega arith; library = w.library; own = every_last method_allowed f s.methods (handlers_fit x h) w.own } } in
    subst (λ y. Grown s y (ItsHandler x)) b.1 grown

pub grown_by : (s t : TextSheet) (x : Line) → Within s → permitted x ≡ true → added s x ≡ Ok t → Grown s t x
grown_by s t (Library x) w h e = library_grown s t x w h e
grown_by s t (OwnMethod x) w h e = method_grown s t x w h e
grown_by s t (Instruction x) w h e = instruction_grown s t x w h e
grown_by s t (ItsHandler x) w h e = handler_grown s t x w h e
