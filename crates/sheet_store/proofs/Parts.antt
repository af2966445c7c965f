-- A list that the methods share, and the part of it that is a method's. Assumes nothing.
use Rattle.std.proofs.Common.{◌≡◌, ℕ, zero, suc, ◌+◌, ◌-◌, ◌<◌, ◌≤◌, List, [], ◌∷◌, ◌++◌, length, get_or, take, drop, sym, ap, ◌∙◌, arith}
use Rattle.std.proofs.lemmas.List.{length-drop, length-take, take-append-le, drop-append-le, drop_at, take_rest}
use Rattle.std.specs.List.{between}
use Rattle.sheet_store.specs.Tiles.{begin, start, Ordered, IsTiled}
use Rattle.sheet_store.specs.Stored.{part}
use Rattle.sheet_store.specs.declared.stored.Header.{Header}
use Rattle.sheet_store.specs.declared.stored.Part.{Part}

module _ (p : Part) where
  pub start_within : (hs : List Header) (n : ℕ) → Ordered p hs n → start p hs n ≤ n
  start_within [] n o = omega arith
  start_within (h ∷ hs) n o = omega (arith, o.0, start_within hs n o.1)

  -- the bounds of a method's part
  pub bounded : (hs : List Header) (k n : ℕ) → Ordered p hs n → (start p (drop k hs) n ≤ start p (drop 1 (drop k hs)) n) × (start p (drop 1 (drop k hs)) n ≤ n)
  bounded [] zero n o = (omega arith, omega arith)
  bounded [] (suc k) n o = (omega arith, omega arith)
  bounded (h ∷ hs) zero n o = (o.0, start_within hs n o.1)
  bounded (h ∷ hs) (suc k) n o = bounded hs k n o.1

  -- the last method begins no lower than the first
  pub below_last : (h : Header) (hs : List Header) (n k : ℕ) (l : Header) → Ordered p (h ∷ hs) n → suc k ≡ length (h ∷ hs) → l ≡ get_or (h ∷ hs) k l → begin p h ≤ begin p l
  below_last h [] n zero l o s e = omega (arith, ap (begin p) e)
  below_last h [] n (suc k) l o s e = absurd (omega arith)
  below_last h (j ∷ hs) n zero l o s e = absurd (omega arith)
  below_last h (j ∷ hs) n (suc k) l o s e = omega (arith, o.0, below_last j hs n k l o.1 (omega arith) e)

  -- the same methods where the list has more
  pub ordered_more : (hs : List Header) (n n' : ℕ) → Ordered p hs n → n ≤ n' → Ordered p hs n'
  ordered_more [] n n' o l = tt
  ordered_more (h ∷ []) n n' o l = (omega (arith, o.0), tt)
  ordered_more (h ∷ (j ∷ hs)) n n' o l = (o.0, ordered_more (j ∷ hs) n n' o.1 l)

  pub start_more : (hs : List Header) (n n' : ℕ) → 0 < length hs → start p hs n ≡ 0 → start p hs n' ≡ 0
  start_more [] n n' s a = absurd (omega arith)
  start_more (h ∷ hs) n n' s a = a

  -- a method more, behind all
  pub ordered_added : (hs : List Header) (h : Header) (n n' : ℕ) → begin p h ≡ n → n ≤ n' → Ordered p hs n → Ordered p (hs ++ h ∷ []) n'
  ordered_added [] h n n' e l o = (omega arith, tt)
  ordered_added (k ∷ []) h n n' e l o = (omega (arith, o.0), ordered_added [] h n n' e l tt)
  ordered_added (k ∷ (j ∷ hs)) h n n' e l o = (o.0, ordered_added (j ∷ hs) h n n' e l o.1)

  pub tiled_added : (hs : List Header) (h : Header) (n n' : ℕ) → begin p h ≡ n → n ≤ n' → IsTiled p hs n → IsTiled p (hs ++ h ∷ []) n'
  tiled_added [] h n n' e l t = record { in_order = ordered_added [] h n n' e l tt; from_zero = omega (arith, t.from_zero) }
  tiled_added (k ∷ hs) h n n' e l t = record { in_order = ordered_added (k ∷ hs) h n n' e l t.in_order; from_zero = t.from_zero }

  module _ {X : Type 0} where
    -- how many the parts of some methods have
    abbrev pub total : List Header → List X → ℕ
    total [] xs = 0
    total (h ∷ hs) xs = length (part p h hs xs) + total hs xs

    total_behind : (hs : List Header) (xs : List X) → Ordered p hs (length xs) → start p hs (length xs) + total hs xs ≡ length xs
    total_behind [] xs o = omega arith
    total_behind (h ∷ hs) xs o =
        let e = start p hs (length xs) in
        omega (arith, o.0, start_within hs (length xs) o.1, total_behind hs xs o.1, length-drop (begin p h) xs, length-take (e - begin p h) (drop (begin p h) xs))

    pub total_is : (hs : List Header) (xs : List X) → IsTiled p hs (length xs) → total hs xs ≡ length xs
    total_is hs xs t = omega (arith, t.from_zero, total_behind hs xs t.in_order)

    -- the last part grows by what is added to the list
    pub last_grows : (h : Header) (xs ys : List X) → begin p h ≤ length xs → part p h [] (xs ++ ys) ≡ part p h [] xs ++ ys
    last_grows h xs ys l = take_rest (xs ++ ys) (begin p h) ∙ drop-append-le (begin p h) xs ys l ∙ ap (λ t. t ++ ys) (sym (take_rest xs (begin p h)))

    -- no other does
    pub other_stays : (h k : Header) (hs : List Header) (xs ys : List X) → Ordered p (h ∷ (k ∷ hs)) (length xs) → part p h (k ∷ hs) (xs ++ ys) ≡ part p h (k ∷ hs) xs
    other_stays h k hs xs ys o =
        let w = start_within (k ∷ hs) (length xs) o.1 in
        ap (take (begin p k - begin p h)) (drop-append-le (begin p h) xs ys (omega (arith, o.0)))
        ∙ take-append-le (begin p k - begin p h) (drop (begin p h) xs) ys (omega (arith, length-drop (begin p h) xs))

    -- a method that begins behind the list takes what is added
    pub added_takes : (h : Header) (xs ys : List X) → begin p h ≡ length xs → part p h [] (xs ++ ys) ≡ ys
    added_takes h xs ys e = take_rest (xs ++ ys) (begin p h) ∙ drop_at xs ys (begin p h) (sym e)

    -- and the one before it stays as it was
    pub last_stays : (k h : Header) (xs ys : List X) → begin p h ≡ length xs → begin p k ≤ length xs → part p k (h ∷ []) (xs ++ ys) ≡ part p k [] xs
    last_stays k h xs ys e l = other_stays k h [] xs ys (omega arith, (omega arith, tt)) ∙ ap (λ j. between (begin p k) j xs) e
