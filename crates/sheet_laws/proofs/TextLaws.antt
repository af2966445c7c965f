-- The law of the one text, and how long that text is. Assumes nothing.
use Rattle.std.proofs.Common.{◌≡◌, ℕ, suc, ◌+◌, ◌*◌, ◌<◌, ◌≤◌, Bool, true, eqb, List, [], ◌∷◌, ◌++◌, length, Ok, Err, Result, sym, refl, ap, ◌∙◌, subst, ⊎_elim, mul-add, arith, MatchResult}
use Rattle.std.specs.List.{flat_map}
use Rattle.std.proofs.lemmas.List.{append_assoc, append-nil, length-append, length_push}
use Rattle.std.proofs.lemmas.Bool.{and_parts, cond-true, cond-false, cases_Bool}
use Rattle.sheet.specs.Bounds.{every, all_allowed, method_allowed, in_range}
use Rattle.sheet.specs.Fields.{fields_of, widths, letter_byte}
use Rattle.sheet.specs.Laws.{TextLaw}
use Rattle.sheet.specs.Lines.{line_read}
use Rattle.sheet.specs.Maps.{and_then, raised}
use Rattle.sheet.specs.Reading.{TextSheet, none, added, line_taken, ahead, lines, lines_read, reading}
use Rattle.sheet.specs.Text.{columns, signature_text, shape_text, instruction_text, handler_text, method_text, sheet_text, shape_numbers}
use Rattle.sheet.specs.View.{empty_sheet, on_last, with_code, with_handlers, pushed, instructions_in, handlers_in, last_method}
use Rattle.sheet.specs.declared.location.PlainLocation.{PlainLocation}
use Rattle.sheet.specs.declared.faults.SheetFault.{SheetFault}
use Rattle.sheet.specs.declared.faults.SheetFault.TheVariants.{Line as AtLine}
use Rattle.sheet.specs.declared.fields.Letter.TheVariants.{M}
use Rattle.sheet.specs.declared.records.Handler.{Handler}
use Rattle.sheet.specs.declared.records.Line.{Line}
use Rattle.sheet.specs.declared.records.Line.TheVariants.{Library, Method as OwnMethod, Instruction, Handler as ItsHandler}
use Rattle.sheet.specs.declared.records.ReadInstruction.{ReadInstruction}
use Rattle.sheet.specs.declared.records.Shape.{Shape}
use Rattle.sheet.specs.declared.records.Signature.{Signature}
use Rattle.sheet_laws.proofs.Adds.{some_there, signature_ok, shape_ok, instruction_ok, handler_ok}
use Rattle.sheet_laws.proofs.Feeds.{lines_line}
use Rattle.sheet_laws.proofs.Grows.{TextMethod, signature_fits, instruction_fits, handler_fits, Within, within_from, within_to, instructions_push, handlers_push, grown_by}
use Rattle.sheet_laws.proofs.Numerals.{and_then_ok, raised_ok, length_columns}
use Rattle.sheet_laws.proofs.Places.{line_length_lem, three_length}
use Rattle.sheet_laws.proofs.Says.{letter, numbers, text_of, permitted, line_reads, line_is}

-- FROM A TEXT TO ITS SHEET

-- the lines of a text, one behind the other, are the text
pub lines_joined : (t : List ℕ) → flat_map (λ l. l) (lines t) ≡ t
unfolding lines
lines_joined [] = refl
lines_joined (b ∷ t) =
    ⊎_elim
    (λ e. ap (flat_map (λ l. l)) (cond-true (eqb b 10) ((b ∷ []) ∷ lines t) (ahead b (lines t)) e) ∙ ap (λ u. b ∷ u) (lines_joined t))
    (λ e. ap (flat_map (λ l. l)) (cond-false (eqb b 10) ((b ∷ []) ∷ lines t) (ahead b (lines t)) e) ∙ ahead_joined b (lines t) ∙ ap (λ u. b ∷ u) (lines_joined t))
    (cases_Bool (eqb b 10))
  where
    ahead_joined : (c : ℕ) (ls : List (List ℕ)) → flat_map (λ l. l) (ahead c ls) ≡ c ∷ flat_map (λ l. l) ls
    ahead_joined c [] = refl
    ahead_joined c (l ∷ ls) = refl

-- what is read of some lines has their text behind what was there
lines_are : (k : ℕ) (s : TextSheet) (ls : List (List ℕ)) (t : TextSheet) → Within s → lines_read k s ls ≡ Ok t → (sheet_text t ≡ sheet_text s ++ flat_map (λ l. l) ls) × Within t
unfolding lines_read
lines_are k s [] t w e = let same : s ≡ t = cc in (ap sheet_text (sym same) ∙ sym (append-nil (sheet_text s)), subst Within same w)
lines_are k s (l ∷ ls) t w e =
    let one = and_then_ok (raised (AtLine k) (line_taken s l)) (λ next. lines_read (suc k) next ls) t e in
    let next = one.0 in
    let two = and_then_ok (line_read l) (added s) next (raised_ok (AtLine k) (line_taken s l) next one.1) in
    let x = two.0 in
    let is = line_is l x two.1 in
    let g = grown_by s next x w is.1 two.2 in
    let r = lines_are (suc k) next ls t g.bounds one.2 in
    (r.0 ∙ ap (λ u. u ++ flat_map (λ y. y) ls) (g.text ∙ ap (λ u. sheet_text s ++ u) (sym is.0)) ∙ append_assoc (sheet_text s) l (flat_map (λ y. y) ls), r.1)

empty_within : Within empty_sheet
empty_within = record { signatures = omega arith; methods = omega arith; instructions = omega arith; handlers = omega arith; library = refl; own = refl }

pub read_said : (text : List ℕ) (s : TextSheet) → reading text ≡ Ok s → (text ≡ sheet_text s) × (in_range s ≡ true)
read_said text s e =
    let r = lines_are 0 empty_sheet (lines text) s empty_within e in
    (sym (lines_joined text) ∙ sym r.0, within_to s r.1)

-- FROM A SHEET TO ITS TEXT AND BACK

-- the line of a record is read behind a sheet that takes it
one_line : (k : ℕ) (s t : TextSheet) (x : Line) (rest : List ℕ) → permitted x ≡ true → added s x ≡ Ok t → lines_read k s (lines (text_of x ++ rest)) ≡ lines_read (suc k) t (lines rest)
unfolding lines_read
one_line k s t x rest p e =
    ap (lines_read k s) (lines_line x rest p) ∙ ap (λ r. and_then (raised (AtLine k) (and_then r (added s))) (λ next. lines_read (suc k) next (lines rest))) (line_reads x p) ∙ ap (λ r. and_then (raised (AtLine k) r) (λ next. lines_read (suc k) next (lines rest))) e

-- from some lines on, what is read is what is read from others on
abbrev Leads : ℕ → TextSheet → List ℕ → TextSheet → List ℕ → Type 0
Leads k s text t rest = (n : ℕ) × (lines_read k s (lines text) ≡ lines_read n t (lines rest))

library_leads : (k : ℕ) (taken xs : List Signature) (rest : List ℕ) → every signature_fits xs ≡ true → length taken + length xs ≤ 32 → Leads k (record { library = taken; methods = [] }) (flat_map signature_text xs ++ rest) (record { library = taken ++ xs; methods = [] }) rest
library_leads k taken [] rest e h = (k, ap (λ l. lines_read k (record { library = l; methods = [] }) (lines rest)) (sym (append-nil taken)))
library_leads k taken (x ∷ xs) rest e h =
    let p = and_parts (signature_fits x) (every signature_fits xs) e in
    let s : TextSheet = record { library = taken; methods = [] } in
    let t : TextSheet = record { library = taken ++ x ∷ []; methods = [] } in
    let more = flat_map signature_text xs ++ rest in
    let step = ap (λ u. lines_read k s (lines u)) (append_assoc (signature_text x) (flat_map signature_text xs) rest) ∙ one_line k s t (Library x) more p.0 (signature_ok s x refl (omega arith)) in
    let r = library_leads (suc k) (taken ++ x ∷ []) xs rest p.1 (omega (arith, length_push taken x)) in
    (r.0, step ∙ r.1 ∙ ap (λ l. lines_read r.0 (record { library = l; methods = [] }) (lines rest)) (append_assoc taken (x ∷ []) xs))

-- the last method of a list
last_push : (ms : List TextMethod) (m : TextMethod) → last_method (ms ++ m ∷ []) ≡ m
last_push [] m = refl
last_push (n ∷ []) m = refl
last_push (n ∷ (k ∷ ms)) m = last_push (k ∷ ms) m

change_push : (f : TextMethod → TextMethod) (ms : List TextMethod) (m : TextMethod) → on_last f (ms ++ m ∷ []) ≡ ms ++ f m ∷ []
change_push f [] m = refl
change_push f (n ∷ []) m = refl
change_push f (n ∷ (k ∷ ms)) m = ap (λ u. n ∷ u) (change_push f (k ∷ ms) m)

module _ (library : List Signature) (ms : List TextMethod) (shape : Shape) where
  abbrev with : List ReadInstruction → List (Handler PlainLocation) → TextSheet
  with code handlers = record { library = library; methods = ms ++ (record { shape = shape; code = code; handlers = handlers }) ∷ [] }

  code_leads : (k : ℕ) (taken xs : List ReadInstruction) (rest : List ℕ) → every instruction_fits xs ≡ true → instructions_in ms + length taken + length xs ≤ 2048 → Leads k (with taken []) (flat_map instruction_text xs ++ rest) (with (taken ++ xs) []) rest
  code_leads k taken [] rest e h = (k, ap (λ c. lines_read k (with c []) (lines rest)) (sym (append-nil taken)))
  code_leads k taken (x ∷ xs) rest e h =
      let p = and_parts (instruction_fits x) (every instruction_fits xs) e in
      let m : TextMethod = record { shape = shape; code = taken; handlers = [] } in
      let s = with taken [] in
      let some = some_there (ms ++ m ∷ []) (omega (arith, length_push ms m)) in
      let last = ap (λ n. none n.handlers) (last_push ms m) in
      let room : instructions_in (ms ++ m ∷ []) < 2048 = omega (arith, instructions_push ms m) in
      let ok = instruction_ok s x some last room ∙ ap (λ ns. Ok (record { library = library; methods = ns })) (change_push (with_code (pushed x)) ms m) in
      let more = flat_map instruction_text xs ++ rest in
      let step = ap (λ u. lines_read k s (lines u)) (append_assoc (instruction_text x) (flat_map instruction_text xs) rest) ∙ one_line k s (with (taken ++ x ∷ []) []) (Instruction x) more p.0 ok in
      let r = code_leads (suc k) (taken ++ x ∷ []) xs rest p.1 (omega (arith, length_push taken x)) in
      (r.0, step ∙ r.1 ∙ ap (λ c. lines_read r.0 (with c []) (lines rest)) (append_assoc taken (x ∷ []) xs))

  handlers_lead : (code : List ReadInstruction) (k : ℕ) (taken xs : List (Handler PlainLocation)) (rest : List ℕ) → every handler_fits xs ≡ true → handlers_in ms + length taken + length xs ≤ 256 → Leads k (with code taken) (flat_map handler_text xs ++ rest) (with code (taken ++ xs)) rest
  handlers_lead code k taken [] rest e h = (k, ap (λ c. lines_read k (with code c) (lines rest)) (sym (append-nil taken)))
  handlers_lead code k taken (x ∷ xs) rest e h =
      let p = and_parts (handler_fits x) (every handler_fits xs) e in
      let m : TextMethod = record { shape = shape; code = code; handlers = taken } in
      let s = with code taken in
      let some = some_there (ms ++ m ∷ []) (omega (arith, length_push ms m)) in
      let room : handlers_in (ms ++ m ∷ []) < 256 = omega (arith, handlers_push ms m) in
      let ok = handler_ok s x some room ∙ ap (λ ns. Ok (record { library = library; methods = ns })) (change_push (with_handlers (pushed x)) ms m) in
      let more = flat_map handler_text xs ++ rest in
      let step = ap (λ u. lines_read k s (lines u)) (append_assoc (handler_text x) (flat_map handler_text xs) rest) ∙ one_line k s (with code (taken ++ x ∷ [])) (ItsHandler x) more p.0 ok in
      let r = handlers_lead code (suc k) (taken ++ x ∷ []) xs rest p.1 (omega (arith, length_push taken x)) in
      (r.0, step ∙ r.1 ∙ ap (λ c. lines_read r.0 (with code c) (lines rest)) (append_assoc taken (x ∷ []) xs))

-- a method with its records
method_leads : (library : List Signature) (ms : List TextMethod) (k : ℕ) (m : TextMethod) (rest : List ℕ) → method_allowed m ≡ true → length ms < 16 → instructions_in ms + length m.code ≤ 2048 → handlers_in ms + length m.handlers ≤ 256 → Leads k (record { library = library; methods = ms }) (method_text m ++ rest) (record { library = library; methods = ms ++ m ∷ [] }) rest
method_leads library ms k m rest e room code handlers =
    let p = and_parts (all_allowed (fields_of M) (shape_numbers m.shape)) _ e in
    let q = and_parts (every instruction_fits m.code) (every handler_fits m.handlers) p.1 in
    let s : TextSheet = record { library = library; methods = ms } in
    let text_c = flat_map instruction_text m.code in
    let text_h = flat_map handler_text m.handlers in
    let split : method_text m ++ rest ≡ shape_text m.shape ++ (text_c ++ (text_h ++ rest)) = append_assoc (shape_text m.shape) (text_c ++ text_h) rest ∙ ap (λ u. shape_text m.shape ++ u) (append_assoc text_c text_h rest) in
    let one = ap (λ u. lines_read k s (lines u)) split ∙ one_line k s (with library ms m.shape [] []) (OwnMethod m.shape) (text_c ++ (text_h ++ rest)) p.0 (shape_ok s m.shape room) in
    let two = code_leads library ms m.shape (suc k) [] m.code (text_h ++ rest) q.0 (omega arith) in
    let three = handlers_lead library ms m.shape m.code two.0 [] m.handlers rest q.1 (omega arith) in
    (three.0, one ∙ two.1 ∙ three.1)

methods_lead : (library : List Signature) (k : ℕ) (taken ms : List TextMethod) → every method_allowed ms ≡ true → length taken + length ms ≤ 16 → instructions_in taken + instructions_in ms ≤ 2048 → handlers_in taken + handlers_in ms ≤ 256 → lines_read k (record { library = library; methods = taken }) (lines (flat_map method_text ms)) ≡ Ok (record { library = library; methods = taken ++ ms })
unfolding lines_read lines
methods_lead library k taken [] e a b c = ap (λ ns. Ok (record { library = library; methods = ns })) (sym (append-nil taken))
methods_lead library k taken (m ∷ ms) e a b c =
    let p = and_parts (method_allowed m) (every method_allowed ms) e in
    let one = method_leads library taken k m (flat_map method_text ms) p.0 (omega arith) (omega arith) (omega arith) in
    let r = methods_lead library one.0 (taken ++ m ∷ []) ms p.1 (omega (arith, length_push taken m)) (omega (arith, instructions_push taken m)) (omega (arith, handlers_push taken m)) in
    one.1 ∙ r ∙ ap (λ ns. Ok (record { library = library; methods = ns })) (append_assoc taken (m ∷ []) ms)

pub written_read : (s : TextSheet) → in_range s ≡ true → reading (sheet_text s) ≡ Ok s
written_read s e =
    let w = within_from s e in
    let one = library_leads 0 [] s.library (flat_map method_text s.methods) w.library (omega (arith, w.signatures)) in
    one.1 ∙ methods_lead s.library one.0 [] s.methods w.own (omega (arith, w.methods)) (omega (arith, w.instructions)) (omega (arith, w.handlers))

-- THE LAW

pub one_text : TextLaw
one_text text s = record { read = λ e h. ap reading e ∙ written_read s h; said = read_said text s }

-- HOW LONG A TEXT IS

joined_length : {X : Type 0} (f : X → List ℕ) (test : X → Bool) (n : ℕ) (xs : List X) → ((x : X) → test x ≡ true → length (f x) ≡ n) → every test xs ≡ true → length (flat_map f xs) ≡ n * length xs
joined_length f test n [] each e = omega arith
joined_length f test n (x ∷ xs) each e =
    let p = and_parts (test x) (every test xs) e in
    let a = length-append (f x) (flat_map f xs) in
    let b = each x p.0 in
    let r = joined_length f test n xs each p.1 in
    omega (arith, mul-add n 1 (length xs))

line_long : (x : Line) → permitted x ≡ true → length (text_of x) ≡ widths (fields_of (letter x)) + 2
line_long x p = line_length_lem (letter_byte (letter x)) (columns (fields_of (letter x)) (numbers x)) ∙ ap (λ k. k + 2) (length_columns (fields_of (letter x)) (numbers x) p)

method_long : (m : TextMethod) → method_allowed m ≡ true → length (method_text m) ≡ 26 + (20 * length m.code + 32 * length m.handlers)
method_long m e =
    let p = and_parts (all_allowed (fields_of M) (shape_numbers m.shape)) _ e in
    let q = and_parts (every instruction_fits m.code) (every handler_fits m.handlers) p.1 in
    let a = three_length (shape_text m.shape) (flat_map instruction_text m.code) (flat_map handler_text m.handlers) in
    let b = line_long (OwnMethod m.shape) p.0 in
    let c = joined_length instruction_text instruction_fits 20 m.code (λ x h. line_long (Instruction x) h) q.0 in
    let d = joined_length handler_text handler_fits 32 m.handlers (λ x h. line_long (ItsHandler x) h) q.1 in
    omega arith

methods_long : (ms : List TextMethod) → every method_allowed ms ≡ true → length (flat_map method_text ms) ≡ 26 * length ms + (20 * instructions_in ms + 32 * handlers_in ms)
methods_long [] e = omega arith
methods_long (m ∷ ms) e =
    let p = and_parts (method_allowed m) (every method_allowed ms) e in
    let a = length-append (method_text m) (flat_map method_text ms) in
    let b = method_long m p.0 in
    let r = methods_long ms p.1 in
    omega arith

pub text_long : (s : TextSheet) → in_range s ≡ true → length (sheet_text s) ≡ 20 * length s.library + 26 * length s.methods + 20 * instructions_in s.methods + 32 * handlers_in s.methods
text_long s e =
    let w = within_from s e in
    let a = length-append (flat_map signature_text s.library) (flat_map method_text s.methods) in
    let b = joined_length signature_text signature_fits 20 s.library (λ x h. line_long (Library x) h) w.library in
    let c = methods_long s.methods w.own in
    omega arith

-- WHAT A READING LEAVES

-- it is within the bounds: it was read, or it is empty
pub left_in_range : (text : List ℕ) (r : Result (Unit {0}) SheetFault) (s : TextSheet) → MatchResult r (λ _. reading text ≡ Ok s) (λ e. (reading text ≡ Err e) × (s ≡ empty_sheet)) → in_range s ≡ true
left_in_range text (Ok u) s e = (read_said text s e).1
left_in_range text (Err f) s (e, empty) = ap in_range empty
