-- The check of a whole sheet, method by method. Assumes nothing.
use Rattle.std.proofs.Common.{◌≡◌, ℕ, suc, ◌+◌, ◌-◌, ◌<◌, ◌≤◌, true, List, [], ◌∷◌, ◌++◌, map, length, get_or, take, drop, replicate, Some, Ok, Err, Result, option_map, slice_get, is_err, false, IsOk, OnOk, OnErr, inl, inr, sym, refl, ap, ◌∙◌, arith}
use Rattle.std.proofs.lemmas.List.{at_drop_more, get_or-map, length-map, length-replicate, length-take-le, take-append-drop, take_more}
use Rattle.std.proofs.lemmas.Option.{slice_get-get_or}
use Rattle.sheet.specs.Bounds.{in_range}
use Rattle.sheet.specs.Maps.{and_then, raised}
use Rattle.sheet.specs.Reading.{TextSheet}
use Rattle.sheet.specs.View.{nobody, no_shape, pushed, with_methods, instructions_in, handlers_in}
use Rattle.sheet.specs.declared.instruction.Instruction.{Instruction}
use Rattle.sheet.specs.declared.location.PlainLocation.{PlainLocation}
use Rattle.sheet.specs.declared.records.Handler.{Handler}
use Rattle.sheet.specs.declared.records.ReadInstruction.{ReadInstruction}
use Rattle.sheet.specs.declared.records.Shape.{Shape}
use Rattle.sheet.specs.declared.records.Signature.{Signature}
use Rattle.sheet_laws.proofs.Grows.{within_from}
use Rattle.sheet_store.specs.Adding.{NoRoom, whole}
use Rattle.check_rules.specs.Check.{ReadMethod, CheckedMethod, CheckedForm, checked, method_checked, methods_checked, method_encoded, shapes_of}
use Rattle.check_rules.specs.Coding.{encoded}
use Rattle.check_rules.specs.Places.{plain}
use Rattle.check_rules.specs.declared.around.Around.{Around}
use Rattle.check_laws.proofs.Method.{method_means}
use Rattle.check_laws.proofs.Sheet.{methods_mean, each_checked, sheet_law}
use Rattle.checking.specs.Methods.{checked_in, MadeUpTo, AllChecked}
use Rattle.check_rules.specs.declared.faults.CheckFault.{CheckFault}
use Rattle.check_rules.specs.declared.faults.CheckFault.TheVariants.{Method as InMethod}
use Rattle.check_rules.specs.declared.faults.MethodFault.{MethodFault}

-- the part of a list that a method takes
pub part_long : {X : Type 0} (N n : ℕ) (d : X) → n ≤ N → length (take (n - 0) (replicate N d)) ≡ n
part_long N n d h = omega (arith, length-take-le (n - 0) (replicate N d), length-replicate N d)

-- COUNTS

-- what methods have, one part behind the other
instructions_split : (ms ns : List ReadMethod) → instructions_in (ms ++ ns) ≡ instructions_in ms + instructions_in ns
instructions_split [] ns = omega arith
instructions_split (m ∷ ms) ns = let r = instructions_split ms ns in omega arith

handlers_split : (ms ns : List ReadMethod) → handlers_in (ms ++ ns) ≡ handlers_in ms + handlers_in ns
handlers_split [] ns = omega arith
handlers_split (m ∷ ms) ns = let r = handlers_split ms ns in omega arith

-- a checked method has as much as the one that was read
instructions_encoded : (cs : List CheckedMethod) → instructions_in (map method_encoded cs) ≡ instructions_in cs
instructions_encoded [] = refl
instructions_encoded (c ∷ cs) = let n = length-map c.code (encoded plain) in let r = instructions_encoded cs in omega arith

handlers_encoded : (cs : List CheckedMethod) → handlers_in (map method_encoded cs) ≡ handlers_in cs
handlers_encoded [] = refl
handlers_encoded (c ∷ cs) = let r = handlers_encoded cs in omega arith

pub code_length : (a : Around) (rs : List ReadInstruction) (xs : List (Handler PlainLocation)) (is : List (Instruction PlainLocation)) → checked_in a rs xs ≡ Ok (whole a.own is xs) → length is ≡ length rs
code_length a rs xs is e = sym (length-map is (encoded plain)) ∙ ap (λ m. length m.code) (method_means a.library.now a.shapes.now (whole a.own is xs) (whole a.own rs xs) e).0

-- METHODS ONE BEHIND THE OTHER

-- one more ahead of two parts
regroup : (c : Result CheckedMethod CheckFault) (r s : Result (List CheckedMethod) CheckFault) → and_then c (λ m. and_then (and_then r (λ xs. and_then s (λ ys. Ok (xs ++ ys)))) (λ zs. Ok (m ∷ zs))) ≡ and_then (and_then c (λ m. and_then r (λ xs. Ok (m ∷ xs)))) (λ xs. and_then s (λ ys. Ok (xs ++ ys)))
regroup (Err e) r s = refl
regroup (Ok m) (Err e) s = refl
regroup (Ok m) (Ok xs) (Err e) = refl
regroup (Ok m) (Ok xs) (Ok ys) = refl

alone : (r : Result (List CheckedMethod) CheckFault) → r ≡ and_then r (λ ys. Ok ([] ++ ys))
alone (Ok ys) = refl
alone (Err e) = refl

module _ (library : List Signature) (shapes : List Shape) where
  -- methods from the j-th on, and behind them those from the n-th on
  methods_split : (j n : ℕ) (xs ys : List ReadMethod) → j + length xs ≡ n → methods_checked library shapes j (xs ++ ys) ≡ and_then (methods_checked library shapes j xs) (λ cs. and_then (methods_checked library shapes n ys) (λ ds. Ok (cs ++ ds)))
  methods_split j n [] ys e = let z : j ≡ n = omega arith in ap (λ k. methods_checked library shapes k ys) z ∙ alone (methods_checked library shapes n ys)
  methods_split j n (x ∷ xs) ys e =
      ap (λ r. and_then (raised (InMethod j) (method_checked library shapes x)) (λ c. and_then r (λ cs. Ok (c ∷ cs)))) (methods_split (suc j) n xs ys (omega arith))
      ∙ regroup (raised (InMethod j) (method_checked library shapes x)) (methods_checked library shapes (suc j) xs) (methods_checked library shapes n ys)

  module _ (ms : List ReadMethod) (k : ℕ) (inside : k < length ms) (cs : List CheckedMethod) (made : methods_checked library shapes 0 (take k ms) ≡ Ok cs) where
    here : (ys : List ReadMethod) → methods_checked library shapes 0 (take k ms ++ ys) ≡ and_then (methods_checked library shapes k ys) (λ ds. Ok (cs ++ ds))
    here ys = methods_split 0 k (take k ms) ys (let n = length-take-le k ms (omega arith) in omega arith) ∙ ap (λ r. and_then r (λ xs. and_then (methods_checked library shapes k ys) (λ ds. Ok (xs ++ ds)))) made

    -- a method that is refused
    pub refused : (f : MethodFault) → method_checked library shapes (get_or ms k nobody) ≡ Err f → methods_checked library shapes 0 ms ≡ Err (InMethod k f)
    refused f e =
        ap (methods_checked library shapes 0) (sym (take-append-drop k ms))
        ∙ here (drop k ms)
        ∙ at_drop_more (λ ys. and_then (methods_checked library shapes k ys) (λ ds. Ok (cs ++ ds))) ms k nobody inside
        ∙ ap (λ r. and_then (and_then (raised (InMethod k) r) (λ c. and_then (methods_checked library shapes (suc k) (drop (k + 1) ms)) (λ xs. Ok (c ∷ xs)))) (λ ds. Ok (cs ++ ds))) e

    -- one method more
    pub one_more : (c : CheckedMethod) → method_checked library shapes (get_or ms k nobody) ≡ Ok c → methods_checked library shapes 0 (take (k + 1) ms) ≡ Ok (cs ++ c ∷ [])
    one_more c e =
        ap (methods_checked library shapes 0) (take_more ms k nobody inside)
        ∙ here (get_or ms k nobody ∷ [])
        ∙ ap (λ r. and_then (and_then (raised (InMethod k) r) (λ x. Ok (x ∷ []))) (λ ds. Ok (cs ++ ds))) e

-- THE METHOD OF A NUMBER

module _ (r : TextSheet) (k : ℕ) (range : in_range r ≡ true) (inside : k < length r.methods) where
  -- with what stands before it, it has no more than all methods
  counts : (instructions_in (take k r.methods) + length (get_or r.methods k nobody).code ≤ 2048) × (handlers_in (take k r.methods) + length (get_or r.methods k nobody).handlers ≤ 256)
  counts =
      let ms = r.methods in
      let m = get_or ms k nobody in
      let w = within_from r range in
      let parts : ms ≡ take k ms ++ (m ∷ drop (k + 1) ms) = sym (take-append-drop k ms) ∙ at_drop_more (λ ys. take k ms ++ ys) ms k nobody inside in
      let a = ap instructions_in parts ∙ instructions_split (take k ms) (m ∷ drop (k + 1) ms) in
      let b = ap handlers_in parts ∙ handlers_split (take k ms) (m ∷ drop (k + 1) ms) in
      (omega (arith, w.instructions), omega (arith, w.handlers))

  pub few_instructions : length (get_or r.methods k nobody).code ≤ 2048
  few_instructions = omega (arith, counts.0)

  -- there is a place for it behind those that were made
  pub has_room : (s : CheckedForm) (n g : ℕ) → n ≡ length (get_or r.methods k nobody).code → g ≡ length (get_or r.methods k nobody).handlers → MadeUpTo r k s → ¬ NoRoom s.methods n g
  has_room s n g p q made full =
      let ms = r.methods in
      let w = within_from r range in
      let same = (methods_mean r.library (shapes_of ms) 0 (take k ms) s.methods made.methods).0 in
      let long : length s.methods ≡ k = sym (length-map s.methods method_encoded) ∙ ap length same ∙ length-take-le k ms (omega arith) in
      let code : instructions_in s.methods ≡ instructions_in (take k ms) = sym (instructions_encoded s.methods) ∙ ap instructions_in same in
      let handlers : handlers_in s.methods ≡ handlers_in (take k ms) = sym (handlers_encoded s.methods) ∙ ap handlers_in same in
      elim full [
        | inl a ↦ omega (arith, w.methods)
        | inr (inl b) ↦ omega (arith, counts.0)
        | inr (inr d) ↦ omega (arith, counts.1)
      ]

-- the same method, checked
same_check : (xs ys : List Signature) (ss ts : List Shape) (m n : ReadMethod) → xs ≡ ys → ss ≡ ts → m ≡ n → method_checked xs ss m ≡ method_checked ys ts n
same_check xs ys ss ts m n p q e = ap (λ l. method_checked l ss m) p ∙ ap (λ l. method_checked ys l m) q ∙ ap (method_checked ys ts) e

-- the first method that is refused
pub refused_at : (r : TextSheet) (k : ℕ) (s : CheckedForm) (f : MethodFault) (xs : List Signature) (ss : List Shape) (m : ReadMethod) → xs ≡ r.library → ss ≡ shapes_of r.methods → m ≡ get_or r.methods k nobody → k < length r.methods → MadeUpTo r k s → method_checked xs ss m ≡ Err f → methods_checked r.library (shapes_of r.methods) 0 r.methods ≡ Err (InMethod k f)
refused_at r k s f xs ss m p q w inside made e = refused r.library (shapes_of r.methods) r.methods k inside s.methods made.methods f (sym (same_check xs r.library ss (shapes_of r.methods) m (get_or r.methods k nobody) p q w) ∙ e)

-- a sheet with one method more
pub made_more : (r : TextSheet) (k : ℕ) (s t : CheckedForm) (c : CheckedMethod) (xs : List Signature) (ss : List Shape) (m : ReadMethod) → xs ≡ r.library → ss ≡ shapes_of r.methods → m ≡ get_or r.methods k nobody → k < length r.methods → MadeUpTo r k s → method_checked xs ss m ≡ Ok c → t ≡ with_methods (pushed c s.methods) s → MadeUpTo r (k + 1) t
made_more r k s t c xs ss m p q w inside made e there = record {
  library = ap (λ x. x.library) there ∙ made.library;
  methods = one_more r.library (shapes_of r.methods) r.methods k inside s.methods made.methods c (sym (same_check xs r.library ss (shapes_of r.methods) m (get_or r.methods k nobody) p q w) ∙ e) ∙ ap Ok (sym (ap (λ x. x.methods) there));
}

-- a call that answers `Ok`, since what it says of an `Err` is false
pub ok_unless : {T E P : Type 0} (r : Result T E) → OnErr r P → ¬ P → IsOk r
ok_unless (Ok x) m no_err = refl
ok_unless (Err e) m no_err = absurd (no_err m)

-- what the check leaves in a sheet passes it
pub left_checked : (read : TextSheet) (s : CheckedForm) (r : Result (Unit {0}) CheckFault) → OnOk r (checked read ≡ Ok s) → is_err r ≡ false → AllChecked s
left_checked read s (Ok u) h e = each_checked s.library (shapes_of s.methods) s.methods ((sheet_law s).means read h).2
left_checked read s (Err f) h e = cc

-- one shape more
pub shape_next : (ms : List ReadMethod) (xs : List Shape) (i : ℕ) (s : Shape) → i < length ms → xs ≡ take i (shapes_of ms) → option_map (λ m. m.shape) (slice_get ms i) ≡ Some s → xs ++ s ∷ [] ≡ take (i + 1) (shapes_of ms)
shape_next ms xs i s h e is =
    let j = sym (ap (option_map (λ m. m.shape)) (slice_get-get_or ms i nobody h)) ∙ is in
    let same : (get_or ms i nobody).shape ≡ s = cc in
    let n = length-map ms (λ m. m.shape) in
    let here = get_or-map (λ m. m.shape) ms i nobody no_shape h ∙ same in
    ap (λ t. t ++ s ∷ []) e ∙ ap (λ y. take i (shapes_of ms) ++ y ∷ []) (sym here) ∙ sym (take_more (shapes_of ms) i no_shape (omega arith))
