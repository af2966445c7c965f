-- A method is checked exactly when it cannot go wrong. Assumes nothing.
use Rattle.std.proofs.Common.{◌≡◌, ℕ, zero, suc, ◌+◌, ◌-◌, ◌<◌, ◌≤◌, Bool, true, false, cond, ltb, leb, ◌⊎◌, List, [], ◌∷◌, map, length, get_or, set, Some, None, Ok, Err, Result, All, unwrap_or, sym, refl, ap, ◌∙◌, subst, inl, inr, ⊎_elim, arith}
use Rattle.std.proofs.lemmas.List.Elements.{All-nil, All-head, All-tail, All-cons, All-map, All-weaker}
use Rattle.std.proofs.lemmas.Option.{none-some, same_Some}
use Rattle.std.proofs.lemmas.List.{length-map, length-set, get_or_past, get_or-set_other, get_or-set_same}
use Rattle.std.proofs.lemmas.Bool.{and_parts, ltb-true, ltb-false, leb-true, le-ltb, cond-true, cond-false, cases_Bool, cases_lt, cases_eq}
use Rattle.sheet.specs.Maps.{and_then, raised}
use Rattle.sheet.specs.Reading.{none}
use Rattle.sheet.specs.declared.instruction.Instruction.{Instruction}
use Rattle.sheet.specs.declared.location.PlainLocation.{PlainLocation}
use Rattle.sheet.specs.declared.records.Handler.{Handler}
use Rattle.sheet.specs.declared.records.Shape.{Shape}
use Rattle.sheet.specs.declared.records.Signature.{Signature}
use Rattle.sheet_laws.proofs.Adds.{some_there}
use Rattle.sheet_laws.proofs.Numerals.{and_then_ok, raised_ok}
use Rattle.check_rules.specs.Check.{ReadMethod, CheckedMethod, decoded_from, handled_from, catches, effects, depths_of, place_in, method_checked, method_encoded}
use Rattle.check_rules.specs.CheckLaws.{Passed, CheckLaw}
use Rattle.check_rules.specs.Coding.{decoded, encoded}
use Rattle.check_rules.specs.Depths.{Depths, swept, caught, begun}
use Rattle.check_rules.specs.Meaning.{Typed, FromBelow, Among}
use Rattle.check_rules.specs.Places.{plain}
use Rattle.check_rules.specs.Ranges.{holds, apart, handles}
use Rattle.check_rules.specs.declared.effect.Effect.{Effect}
use Rattle.check_rules.specs.declared.faults.MethodFault.TheVariants.{NoInstruction, TooManyCells, Operand, Handler as AtHandler, Depth}
use Rattle.check_laws.proofs.Codes.{all_back, all_decoded}
use Rattle.check_laws.proofs.Complete.{Sits, Agrees, Ready, Good, sweep_passes}
use Rattle.check_laws.proofs.Means.{Low, caught_all, start, start_within, start_origin, begun_length, begun_low, sweep_means, pass_means, sweep_origin}

-- THE HANDLERS

-- a handler suits a method with this stack limit and n instructions
abbrev pub Suits : ℕ → ℕ → Handler PlainLocation → Type 0
Suits limit n x = handles limit n x ≡ true

pub all_suit : (limit n at : ℕ) (xs : List (Handler PlainLocation)) → handled_from limit n at xs ≡ Ok tt → All (Suits limit n) xs
all_suit limit n at [] e = All-nil (Suits limit n)
all_suit limit n at (x ∷ xs) e =
    ⊎_elim
    (λ b. All-cons (Suits limit n) x xs b (all_suit limit n (suc at) xs (sym (cond-true (handles limit n x) _ _ b) ∙ e)))
    (λ b. (let s = sym (cond-false (handles limit n x) (handled_from limit n (suc at) xs) (Err at) b) ∙ e in cc))
    (cases_Bool (handles limit n x))

pub suit_all : (limit n at : ℕ) (xs : List (Handler PlainLocation)) → All (Suits limit n) xs → handled_from limit n at xs ≡ Ok tt
suit_all limit n at [] w = refl
suit_all limit n at (x ∷ xs) w = cond-true (handles limit n x) _ _ (All-head (Suits limit n) x xs w) ∙ suit_all limit n (suc at) xs (All-tail (Suits limit n) x xs w)

-- what a handler that suits says of its catch begin
catch_facts : (limit n : ℕ) (x : Handler PlainLocation) → handles limit n x ≡ true → (x.catch_begin.number < n) × (0 < x.catch_begin.number) × (1 ≤ limit)
catch_facts limit n x e =
    let a = and_parts (holds n x.try_begin.number x.try_end.number) _ e in
    let b = and_parts (holds n x.catch_begin.number x.catch_end.number) _ a.1 in
    let h = and_parts (ltb x.catch_begin.number x.catch_end.number) (leb x.catch_end.number n) b.0 in
    let c = and_parts (ltb 0 x.catch_begin.number) _ b.1 in
    let d = and_parts (apart x) (ltb 0 limit) c.1 in
    let f = ltb-true _ _ h.0 in
    let g = leb-true _ _ h.1 in
    (omega arith, ltb-true 0 _ c.0, ltb-true 0 limit d.1)

-- what follows for the catch begins, where the handlers suit
catch_all : (limit n : ℕ) (P : ℕ → Type 0) → ((x : Handler PlainLocation) → Suits limit n x → P x.catch_begin.number) → (xs : List (Handler PlainLocation)) → All (Suits limit n) xs → All P (catches xs)
catch_all limit n P f xs w = All-map P (λ x. x.catch_begin.number) xs (All-weaker (Suits limit n) (λ x. P x.catch_begin.number) f xs w)

pub catches_within : (limit n : ℕ) (xs : List (Handler PlainLocation)) → All (Suits limit n) xs → All (λ b. b < n) (catches xs)
catches_within limit n = catch_all limit n (λ b. b < n) (λ x e. (catch_facts limit n x e).0)

catches_above : (limit n : ℕ) (xs : List (Handler PlainLocation)) → All (Suits limit n) xs → All (λ b. 0 < b) (catches xs)
catches_above limit n = catch_all limit n (λ b. 0 < b) (λ x e. (catch_facts limit n x e).1)

catches_limit : (limit n : ℕ) (xs : List (Handler PlainLocation)) → All (Suits limit n) xs → All (λ b. 1 ≤ limit) (catches xs)
catches_limit limit n = catch_all limit n (λ b. 1 ≤ limit) (λ x e. (catch_facts limit n x e).2)

-- THE DEPTHS AT THE START

-- a depth at the start is 0 at location 0, or 1 at a catch begin
caught_origin : (bs : List ℕ) (ds : Depths) (l x : ℕ) → get_or (caught bs ds) l None ≡ Some x → (get_or ds l None ≡ Some x) ⊎ ((x ≡ 1) × Among l bs)
caught_origin [] ds l x e = inl e
caught_origin (b ∷ bs) ds l x e =
    ⊎_elim
    (λ h.
    ⊎_elim
    (λ q.
    ⊎_elim
    (λ inside. inr (sym (same_Some _ _ (sym (get_or-set_same ds b (Some 1) None inside) ∙ ap (λ k. get_or (set ds b (Some 1)) k None) (sym q) ∙ h)), inl q))
    (λ past. absurd (let n = length-set ds b (Some 1) in none-some x (sym (get_or_past (set ds b (Some 1)) l None (omega arith)) ∙ h)))
    (cases_lt b (length ds)))
    (λ q. inl (sym (get_or-set_other ds b l (Some 1) None q) ∙ h))
    (cases_eq l b))
    (λ w. inr (w.0, inr w.1))
    (caught_origin bs (set ds b (Some 1)) l x e)

begun_origin : (bs : List ℕ) (n l x : ℕ) → get_or (begun bs n) l None ≡ Some x → ((l ≡ 0) × (x ≡ 0)) ⊎ ((x ≡ 1) × Among l bs)
begun_origin bs n l x e = ⊎_elim (λ h. inl (start_origin n l x h)) (λ w. inr w) (caught_origin bs _ l x e)

-- what holds of all of a list holds of one that is among them
all_among : (P : ℕ → Type 0) (cs : List ℕ) → All P cs → (l : ℕ) → Among l cs → P l
all_among P [] w l m = absurd m
all_among P (c ∷ cs) w l (inl q) = subst P (sym q) (All-head P c cs w)
all_among P (c ∷ cs) w l (inr m) = all_among P cs (All-tail P c cs w) l m

-- a catch begin has depth 1 at the start
begun_catch : (bs : List ℕ) (n l : ℕ) → All (λ b. b < n) bs → Among l bs → get_or (begun bs n) l None ≡ Some 1
begun_catch bs n l w m = all_among (λ b. get_or (begun bs n) b None ≡ Some 1) bs (caught_all bs (start n) (start_within n bs w)) l m

-- FROM A SWEEP THAT PASSES TO ITS MEANING

module _ (limit : ℕ) (fs : List Effect) (bs : List ℕ) (within : All (λ b. b < length fs) bs) (above : All (λ b. 0 < b) bs) (one : All (λ b. 1 ≤ limit) bs) (some : 0 < length fs) where
  start_low : Low limit (begun bs (length fs))
  start_low = begun_low limit (length fs) bs within one

  module _ (ds : Depths) (e : swept fs 0 limit (begun bs (length fs)) ≡ Ok ds) where
    swept_typed : Typed limit fs bs ds
    swept_typed =
        let n : length fs ≡ suc (length fs - 1) = omega arith in
        pass_means limit (length fs - 1) fs bs ds n (subst (λ k. All (λ b. b < k) bs) n within) above one (ap (λ k. swept fs 0 limit (begun bs k)) (sym n) ∙ e)

    swept_length : length ds ≡ length fs
    swept_length =
        let n = begun_length bs (length fs) in
        (sweep_means limit fs 0 (begun bs (length fs)) ds (omega arith) start_low e).0.long ∙ n

    swept_below : (l d : ℕ) → get_or ds l None ≡ Some d → (d ≡ 0) ⊎ (Among l bs ⊎ FromBelow fs 0 l)
    swept_below l d h =
        let n = begun_length bs (length fs) in
        ⊎_elim (λ z. inl z)
        (λ w. ⊎_elim (λ q. ⊎_elim (λ z. inl z.1) (λ c. inr (inl c.1)) (begun_origin bs (length fs) l d q)) (λ b. inr (inr b)) w)
        (sweep_origin limit fs 0 (begun bs (length fs)) ds (omega arith) start_low (λ k lt. absurd (omega arith)) e l d h)

-- AND BACK

module _ (limit : ℕ) (fs : List Effect) (bs : List ℕ) (within : All (λ b. b < length fs) bs) (ds : Depths) (long : length ds ≡ length fs) (typed : Typed limit fs bs ds) (below : (l d : ℕ) → get_or ds l None ≡ Some d → (d ≡ 0) ⊎ (Among l bs ⊎ FromBelow fs 0 l)) where
  -- the depth of a location
  depth : ℕ → ℕ
  depth l = unwrap_or (get_or ds l None) 0

  depth_is : (l d : ℕ) → get_or ds l None ≡ Some d → depth l ≡ d
  unfolding depth
  depth_is l d e = ap (λ o. unwrap_or o 0) e

  inside : (l d : ℕ) → get_or ds l None ≡ Some d → l < length fs
  inside l d e = ⊎_elim (λ h. h) (λ h. absurd (none-some d (sym (get_or_past ds l None (omega arith)) ∙ e))) (cases_lt l (length fs))

  sits : (at : ℕ) (r : Effect) → at < length fs → r ≡ get_or fs at r → Sits depth (length fs) limit r at
  sits at r h q =
      let s = typed.sound at r h q in
      let here = depth_is at s.depth s.here in
      record {
        enough = subst (λ d. r.takes ≤ d) (sym here) s.enough;
        fits = subst (λ d. d - r.takes + r.leaves ≤ limit) (sym here) s.fits;
        goes_on = λ f. (inside (at + 1) _ (s.goes_on f), depth_is (at + 1) _ (s.goes_on f) ∙ ap (λ d. d - r.takes + r.leaves) (sym here));
        goes_to = λ t j. (inside t _ (s.goes_to t j), depth_is t _ (s.goes_to t j) ∙ ap (λ d. d - r.takes + r.leaves) (sym here));
        exact = λ x. here ∙ s.exact x;
      }

  good : (rs : List Effect) (at : ℕ) → at + length rs ≡ length fs → ((k : ℕ) (r : Effect) → k < length rs → r ≡ get_or rs k r → Sits depth (length fs) limit r (at + k)) → Good depth (length fs) limit rs at
  good [] at n each = tt
  good (r ∷ rs) at n each =
      let z : at + 0 ≡ at = omega arith in (
        subst (λ k. Sits depth (length fs) limit r k) z (each 0 r (omega arith) refl),
        good rs (at + 1) (omega arith) (λ k x h q. (let s : at + suc k ≡ at + 1 + k = omega arith in subst (λ j. Sits depth (length fs) limit x j) s (each (suc k) x (omega arith) q))),
      )

  caught_depth : (l : ℕ) → Among l bs → depth l ≡ 1
  caught_depth l m = depth_is l 1 (all_among (λ b. get_or ds b None ≡ Some 1) bs typed.caught l m)

  agrees : Agrees depth (length fs) limit (begun bs (length fs))
  agrees = record {
    agrees = λ l d h. ⊎_elim (λ z. ap depth z.0 ∙ depth_is 0 0 typed.begins ∙ sym z.1) (λ c. caught_depth l c.1 ∙ sym c.0) (begun_origin bs (length fs) l d h);
    long = begun_length bs (length fs);
  }

  ready : (l : ℕ) → l < length fs → Ready depth (length fs) limit fs 0 (begun bs (length fs)) l
  ready l h =
      let s = typed.sound l (get_or fs l nothing) h (get_or_default' fs l h) in
      let here = depth_is l s.depth s.here in
      ⊎_elim (λ z. inl (here ∙ z))
      (λ w. ⊎_elim (λ m. inr (inl (begun_catch bs (length fs) l within m ∙ ap Some (sym (caught_depth l m))))) (λ b. inr (inr b)) w)
      (below l s.depth s.here)
    where
      nothing : Effect
      nothing = record { takes = 0; leaves = 0; falls = false; exact = false; jump = None }

      get_or_default' : (gs : List Effect) (k : ℕ) → k < length gs → get_or gs k nothing ≡ get_or gs k (get_or gs k nothing)
      get_or_default' [] k lt = absurd (omega arith)
      get_or_default' (g ∷ gs) zero lt = refl
      get_or_default' (g ∷ gs) (suc k) lt = get_or_default' gs k (omega arith)

  pub swept_passes : (es : Depths) × (swept fs 0 limit (begun bs (length fs)) ≡ Ok es)
  swept_passes =
      sweep_passes depth (length fs) limit fs 0 (begun bs (length fs)) (omega arith) (good fs 0 (omega arith) (λ k r h q. (let z : k ≡ 0 + k = omega arith in subst (λ j. Sits depth (length fs) limit r j) z (sits k r h q)))) agrees (λ l lo hi. ready l hi)

-- THE LAW OF A METHOD

-- a test that stood in the way did not hold
unless : {A E : Type 0} (b : Bool) (f : E) (r : Result A E) (a : A) → cond b (Err f) r ≡ Ok a → (b ≡ false) × (r ≡ Ok a)
unless false f r a e = (refl, e)
unless true f r a e = cc

none_long : {X : Type 0} (xs : List X) → none xs ≡ false → 0 < length xs
none_long [] e = cc
none_long (x ∷ xs) e = omega arith

module _ (library : List Signature) (shapes : List Shape) where
  -- a method whose parts passed
  from_parts : (shape : Shape) (is : List (Instruction PlainLocation)) (xs : List (Handler PlainLocation)) (ds : Depths) → 0 < length is → shape.arguments + shape.locals + shape.stack_limit ≤ 256 → map (decoded (place_in library shapes shape (length is))) (map (encoded plain) is) ≡ map Some is → All (Suits shape.stack_limit (length is)) xs → depths_of (place_in library shapes shape (length is)) is xs ≡ Ok ds → Passed library shapes (record { shape = shape; code = is; handlers = xs })
  from_parts shape is xs ds some cells operands suits e =
      let p = place_in library shapes shape (length is) in
      let limit = shape.stack_limit in
      let fs = effects p is in
      let n : length fs ≡ length is = length-map is _ in
      let bs = catches xs in
      let within = subst (λ k. All (λ b. b < k) bs) (sym n) (catches_within limit (length is) xs suits) in
      let above = catches_above limit (length is) xs suits in
      let one = catches_limit limit (length is) xs suits in
      let e' : swept fs 0 limit (begun bs (length fs)) ≡ Ok ds = ap (λ k. swept fs 0 limit (begun bs k)) n ∙ e in
      record {
        some = some;
        cells = cells;
        operands = operands;
        handlers = suits;
        depths = ds;
        long = swept_length limit fs bs within above one (omega arith) ds e' ∙ n;
        typed = swept_typed limit fs bs within above one (omega arith) ds e';
        below = swept_below limit fs bs within above one (omega arith) ds e';
      }

  pub method_means : (m : CheckedMethod) (r : ReadMethod) → method_checked library shapes r ≡ Ok m → (method_encoded m ≡ r) × Passed library shapes m
  method_means m r e =
      let shape = r.shape in
      let xs = r.handlers in
      let p = place_in library shapes shape (length r.code) in
      let limit = shape.stack_limit in
      let one = unless (none r.code) NoInstruction _ m e in
      let two = unless (ltb 256 (shape.arguments + shape.locals + limit)) TooManyCells _ m one.1 in
      let three = and_then_ok (raised Operand (decoded_from p 0 r.code)) _ m two.1 in
      let is = three.0 in
      let four = and_then_ok (raised AtHandler (handled_from limit (length r.code) 0 xs)) _ m three.2 in
      let five = and_then_ok (raised Depth (depths_of p is xs)) _ m four.2 in
      let ds = five.0 in
      let c : CheckedMethod = record { shape = shape; code = is; handlers = xs } in
      let same : c ≡ m = cc in
      let back = all_back p 0 r.code is (raised_ok Operand (decoded_from p 0 r.code) is three.1) in
      let n : length r.code ≡ length is = ap length (sym back.0) ∙ length-map is (encoded plain) in
      let suits = subst (λ k. All (Suits limit k) xs) n (all_suit limit (length r.code) 0 xs (raised_ok AtHandler (handled_from limit (length r.code) 0 xs) four.0 four.1)) in
      let operands : map (decoded (place_in library shapes shape (length is))) (map (encoded plain) is) ≡ map Some is = ap (λ k. map (decoded (place_in library shapes shape k)) (map (encoded plain) is)) (sym n) ∙ ap (map (decoded p)) back.0 ∙ back.1 in
      let depths : depths_of (place_in library shapes shape (length is)) is xs ≡ Ok ds = ap (λ k. depths_of (place_in library shapes shape k) is xs) (sym n) ∙ raised_ok Depth (depths_of p is xs) ds five.1 in
      let some : 0 < length is = omega (arith, none_long r.code one.0) in
      let cells = ltb-false 256 _ two.0 in
      let passed = from_parts shape is xs ds some cells operands suits depths in
      let encoded_same : method_encoded c ≡ r = ap (λ rs. record { shape = shape; code = rs; handlers = xs }) back.0 in
      (ap method_encoded (sym same) ∙ encoded_same, subst (Passed library shapes) same passed)

  pub method_passes : (m : CheckedMethod) → Passed library shapes m → method_checked library shapes (method_encoded m) ≡ Ok m
  method_passes m w =
      let shape = m.shape in
      let is = m.code in
      let xs = m.handlers in
      let rs = map (encoded plain) is in
      let limit = shape.stack_limit in
      let n : length rs ≡ length is = length-map is (encoded plain) in
      let p = place_in library shapes shape (length rs) in
      let q = place_in library shapes shape (length is) in
      let fs = effects q is in
      let k : length fs ≡ length is = length-map is _ in
      let bs = catches xs in
      let within = subst (λ j. All (λ b. b < j) bs) (sym k) (catches_within limit (length is) xs w.handlers) in
      let sweep = swept_passes limit fs bs within w.depths (w.long ∙ sym k) w.typed w.below in
      let ds = sweep.0 in
      let depths : depths_of p is xs ≡ Ok ds = ap (λ j. swept fs 0 limit (begun bs j)) (sym k) ∙ sweep.1 in
      let code : decoded_from p 0 rs ≡ Ok is = all_decoded p 0 rs is (ap (λ j. map (decoded (place_in library shapes shape j)) rs) n ∙ w.operands) in
      let suits : handled_from limit (length rs) 0 xs ≡ Ok tt = ap (λ j. handled_from limit j 0 xs) n ∙ suit_all limit (length is) 0 xs w.handlers in
      let some : none rs ≡ false = some_there rs (omega (arith, w.some)) in
      cond-false (none rs) (Err NoInstruction) _ some
      ∙ cond-false (ltb 256 (shape.arguments + shape.locals + limit)) (Err TooManyCells) _ (le-ltb 256 _ w.cells)
      ∙ ap (λ o. and_then (raised Operand o) (λ js. and_then (raised AtHandler (handled_from limit (length rs) 0 xs)) (λ _. and_then (raised Depth (depths_of p js xs)) (λ _. Ok (record { shape = shape; code = js; handlers = xs }))))) code
      ∙ ap (λ o. and_then (raised AtHandler o) (λ _. and_then (raised Depth (depths_of p is xs)) (λ _. Ok m))) suits
      ∙ ap (λ o. and_then (raised Depth o) (λ _. Ok m)) depths

pub check_law : CheckLaw
check_law library shapes m = record { means = method_means library shapes m; passes = method_passes library shapes m }
