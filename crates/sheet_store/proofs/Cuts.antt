-- A stored sheet's methods, and those with more behind them. Assumes nothing.
use Rattle.std.proofs.Common.{◌≡◌, ℕ, zero, suc, ◌+◌, ◌-◌, ◌<◌, ◌≤◌, eqb, List, [], ◌∷◌, ◌++◌, length, get_or, take, drop, sym, refl, ap, ◌∙◌, arith}
use native.Mathlib.Numerals.{unary_clauses}
use Rattle.std.proofs.lemmas.List.{append-nil, drop-take, take-take, take_rest}
use Rattle.std.proofs.lemmas.List.Edits.{between_none}
use Rattle.std.proofs.Math.Dec.{eqb-zero-suc, eqb-suc-suc}
use Rattle.std.specs.List.{between, slice_get}
use Rattle.std.specs.Option.{option_map}
use Rattle.sheet.specs.Reading.{none}
use Rattle.sheet.specs.View.{Method, on_last, pushed, bare, instructions_in, handlers_in, with_code, with_handlers, nobody, no_shape, last_method}
use Rattle.sheet.specs.declared.records.Shape.{Shape}
use Rattle.sheet_store.specs.Adding.{whole}
use Rattle.sheet_store.specs.Stored.{part, cut}
use Rattle.sheet_store.specs.Tiles.{start, Ordered, IsTiled}
use Rattle.sheet_store.specs.declared.stored.Header.{Header}
use Rattle.sheet_store.specs.declared.stored.Part.{Part}
use Rattle.sheet_store.specs.declared.stored.Part.TheVariants.{Code, Handlers}
use Rattle.sheet_store.proofs.Parts.{total, total_is, last_grows, other_stays, added_takes, last_stays}

-- a part below b is the same where the lists are the same below b
pub between_same : {X : Type 0} (i j b : ℕ) (xs ys : List X) → i ≤ j → j ≤ b → take b ys ≡ take b xs → between i j ys ≡ between i j xs
between_same i j b xs ys h k e =
    let s : i + (j - i) ≡ j = omega arith in
    sym (drop-take i (j - i) ys) ∙ ap (drop i) (ap (λ n. take n ys) s ∙ sym (take-take j b ys k) ∙ ap (take j) e ∙ take-take j b xs k ∙ ap (λ n. take n xs) (sym s)) ∙ drop-take i (j - i) xs

-- the shape of the first method
abbrev pub shape_of : List Header → Shape
shape_of [] = no_shape
shape_of (h ∷ hs) = h.shape

-- what stands from the beginning of the first method to that of the second
abbrev pub part_of : {X : Type 0} → Part → List Header → List X → List X
part_of p hs xs = between (start p hs (length xs)) (start p (drop 1 hs) (length xs)) xs

-- nothing stands behind the first k exactly when there are k
none_drop : {X : Type 0} (k : ℕ) (xs : List X) → k ≤ length xs → none (drop k xs) ≡ eqb k (length xs)
none_drop zero [] h = refl
none_drop zero (x ∷ xs) h = sym (eqb-zero-suc (length xs))
none_drop (suc k) [] h = absurd (omega arith)
none_drop (suc k) (x ∷ xs) h = none_drop k xs (omega arith) ∙ sym (eqb-suc-suc k (length xs))

module _ {I H : Type 0} where
  -- equal methods ahead of equal lists
  ahead : (s : Shape) {a b : List I} {c d : List H} {ms ns : List (Method I H)} → a ≡ b → c ≡ d → ms ≡ ns → ◌≡◌ {A = List (Method I H)} (record { shape = s; code = a; handlers = c } ∷ ms) (record { shape = s; code = b; handlers = d } ∷ ns)
  ahead s p q r = cc

  pub cut_length : (hs : List Header) (c : List I) (x : List H) → length (cut hs c x) ≡ length hs
  cut_length [] c x = refl
  cut_length (h ∷ hs) c x = ap suc (cut_length hs c x)

  code_total : (hs : List Header) (c : List I) (x : List H) → instructions_in (cut hs c x) ≡ total Code hs c
  code_total [] c x = refl
  code_total (h ∷ hs) c x = ap (λ n. length (part Code h hs c) + n) (code_total hs c x)

  handlers_total : (hs : List Header) (c : List I) (x : List H) → handlers_in (cut hs c x) ≡ total Handlers hs x
  handlers_total [] c x = refl
  handlers_total (h ∷ hs) c x = ap (λ n. length (part Handlers h hs x) + n) (handlers_total hs c x)

  pub instructions_are : (hs : List Header) (c : List I) (x : List H) → IsTiled Code hs (length c) → instructions_in (cut hs c x) ≡ length c
  instructions_are hs c x t = code_total hs c x ∙ total_is Code hs c t

  pub handlers_are : (hs : List Header) (c : List I) (x : List H) → IsTiled Handlers hs (length x) → handlers_in (cut hs c x) ≡ length x
  handlers_are hs c x t = handlers_total hs c x ∙ total_is Handlers hs x t

  -- the last method grows by what is added to the lists
  grown : (hs : List Header) (c is : List I) (x ys : List H) (f : Method I H → Method I H) → ((m : Method I H) → f m ≡ record { shape = m.shape; code = m.code ++ is; handlers = m.handlers ++ ys }) → Ordered Code hs (length c) → Ordered Handlers hs (length x) → cut hs (c ++ is) (x ++ ys) ≡ on_last f (cut hs c x)
  grown [] c is x ys f e o p = refl
  grown (h ∷ []) c is x ys f e o p = ahead h.shape (last_grows Code h c is o.0) (last_grows Handlers h x ys p.0) refl ∙ ap (λ m. m ∷ []) (sym (e _))
  grown (h ∷ (k ∷ hs)) c is x ys f e o p = ahead h.shape (other_stays Code h k hs c is o) (other_stays Handlers h k hs x ys p) (grown (k ∷ hs) c is x ys f e o.1 p.1)

  pub code_pushed : (hs : List Header) (c : List I) (x : List H) (y : I) → Ordered Code hs (length c) → Ordered Handlers hs (length x) → cut hs (c ++ y ∷ []) x ≡ on_last (with_code (pushed y)) (cut hs c x)
  code_pushed hs c x y o p =
      ap (cut hs (c ++ y ∷ [])) (sym (append-nil x)) ∙ grown hs c (y ∷ []) x [] (with_code (pushed y)) (λ m. ap (λ t. record { shape = m.shape; code = m.code ++ y ∷ []; handlers = t }) (sym (append-nil m.handlers))) o p

  pub handler_pushed : (hs : List Header) (c : List I) (x : List H) (y : H) → Ordered Code hs (length c) → Ordered Handlers hs (length x) → cut hs c (x ++ y ∷ []) ≡ on_last (with_handlers (pushed y)) (cut hs c x)
  handler_pushed hs c x y o p =
      ap (λ d. cut hs d (x ++ y ∷ [])) (sym (append-nil c)) ∙ grown hs c [] x (y ∷ []) (with_handlers (pushed y)) (λ m. ap (λ t. record { shape = m.shape; code = t; handlers = m.handlers ++ y ∷ [] }) (sym (append-nil m.code))) o p

  -- a method more, behind all, with what is added to the lists
  pub whole_added : (hs : List Header) (h : Header) (c is : List I) (x ys : List H) → h.code_begin ≡ length c → h.handlers_begin ≡ length x → Ordered Code hs (length c) → Ordered Handlers hs (length x) → cut (hs ++ h ∷ []) (c ++ is) (x ++ ys) ≡ pushed (whole h.shape is ys) (cut hs c x)
  whole_added [] h c is x ys a b o p = ahead h.shape (added_takes Code h c is a) (added_takes Handlers h x ys b) refl
  whole_added (k ∷ []) h c is x ys a b o p = ahead k.shape (last_stays Code k h c is a o.0) (last_stays Handlers k h x ys b p.0) (whole_added [] h c is x ys a b tt tt)
  whole_added (k ∷ (j ∷ hs)) h c is x ys a b o p = ahead k.shape (other_stays Code k j hs c is o) (other_stays Handlers k j hs x ys p) (whole_added (j ∷ hs) h c is x ys a b o.1 p.1)

  pub method_added : (hs : List Header) (h : Header) (c : List I) (x : List H) → h.code_begin ≡ length c → h.handlers_begin ≡ length x → cut (hs ++ h ∷ []) c x ≡ pushed (bare h.shape) (cut hs c x)
  method_added [] h c x a b = ahead h.shape (ap (λ j. between j (length c) c) a ∙ between_none c (length c)) (ap (λ j. between j (length x) x) b ∙ between_none x (length x)) refl
  method_added (k ∷ []) h c x a b = ahead k.shape (ap (λ j. between k.code_begin j c) a) (ap (λ j. between k.handlers_begin j x) b) (method_added [] h c x a b)
  method_added (k ∷ (j ∷ hs)) h c x a b = ap (λ ms. record { shape = k.shape; code = part Code k (j ∷ hs) c; handlers = part Handlers k (j ∷ hs) x } ∷ ms) (method_added (j ∷ hs) h c x a b)

  nobody_at : (c : List I) (x : List H) → ◌≡◌ {A = Method I H} nobody (record { shape = no_shape; code = part_of Code [] c; handlers = part_of Handlers [] x })
  nobody_at c x = ap (λ d. record { shape = no_shape; code = d; handlers = [] }) (sym (between_none c (length c))) ∙ ap (λ d. record { shape = no_shape; code = part_of Code [] c; handlers = d }) (sym (between_none x (length x)))

  -- the method of a number
  pub cut_at : (hs : List Header) (c : List I) (x : List H) (k : ℕ) → get_or (cut hs c x) k nobody ≡ record { shape = shape_of (drop k hs); code = part_of Code (drop k hs) c; handlers = part_of Handlers (drop k hs) x }
  cut_at [] c x zero = nobody_at c x
  cut_at [] c x (suc k) = nobody_at c x
  cut_at (h ∷ hs) c x zero = refl
  cut_at (h ∷ hs) c x (suc k) = cut_at hs c x k

  pub shape_at : (hs : List Header) (c : List I) (x : List H) (k : ℕ) → option_map (λ m. m.shape) (slice_get (cut hs c x) k) ≡ option_map (λ h. h.shape) (slice_get hs k)
  shape_at [] c x zero = refl
  shape_at [] c x (suc k) = refl
  shape_at (h ∷ hs) c x zero = refl
  shape_at (h ∷ hs) c x (suc k) = shape_at hs c x k

  -- the last method has no handler where none stands behind its beginning
  pub last_none : (hs : List Header) (c : List I) (x : List H) (h : Header) → Ordered Handlers hs (length x) → 0 < length hs → h ≡ get_or hs (length hs - 1) h → eqb h.handlers_begin (length x) ≡ none (last_method (cut hs c x)).handlers
  last_none [] c x h o s e = absurd (omega arith)
  last_none (k ∷ []) c x h o s e = ap (λ j. eqb j.handlers_begin (length x)) e ∙ sym (ap none (take_rest x k.handlers_begin) ∙ none_drop k.handlers_begin x o.0)
  last_none (k ∷ (j ∷ hs)) c x h o s e = last_none (j ∷ hs) c x h o.1 (omega arith) (simp unary_clauses (simp unary_clauses at e))
