-- Texts written into a buffer one behind the other. Assumes nothing.
use Rattle.std.proofs.Common.{◌≡◌, ℕ, ◌+◌, ◌-◌, ◌<◌, ◌≤◌, List, [], ◌∷◌, ◌++◌, length, get_or, take, drop, replicate, sym, ap, ◌∙◌, arith}
use borrow.Rule.Slice.PartMut.{put_mid}
use Rattle.std.specs.List.{flat_map}
use Rattle.std.proofs.lemmas.Grind.{flat_map-append}
use Rattle.std.proofs.lemmas.List.{flat_map_more, length-append, length-drop, length_push, length-replicate, length-take-le, take-append-drop, take_more, drop-drop}
use Rattle.sheet.specs.Columns.{column}
use Rattle.sheet.specs.Text.{placed}

pub length_column : (w : ℕ) (t : List ℕ) → length t ≤ w → length (column w t) ≡ w
length_column w t h = omega (arith, length-append (replicate (w - length t) 32) t, length-replicate {A = ℕ} (w - length t) 32)

-- the part of a buffer that a column takes
pub part_length : (at w : ℕ) (E : List ℕ) → at + w ≤ length E → length (take (at + w - at) (drop at E)) ≡ w
part_length at w E h = omega (arith, length-take-le (at + w - at) (drop at E), length-drop at E)

-- a column written into that part
pub placed_column : (at w : ℕ) (E W t : List ℕ) → at + w ≤ length E → length t ≤ w → W ≡ column (length (take (at + w - at) (drop at E))) t → put_mid at (at + w - at) E W ≡ placed at (column w t) E
placed_column at w E W t h s e =
    let k : at + w - at ≡ w = omega arith in
    let c = e ∙ ap (λ n. column n t) (part_length at w E h) in
    ap (λ y. take at E ++ (y ++ drop (at + w - at) (drop at E))) c ∙ ap (λ y. take at E ++ (column w t ++ y)) (drop-drop (at + w - at) at E ∙ ap (λ j. drop (at + j) E) (k ∙ sym (length_column w t s)))

-- a written buffer is as long as it was
pub placed_length : (at : ℕ) (t E : List ℕ) → at + length t ≤ length E → length (placed at t E) ≡ length E
placed_length at t E h =
    let back = drop (at + length t) E in
    omega (arith, length-append (take at E) (t ++ back), length-append t back, length-take-le at E, length-drop (at + length t) E)

-- pieces of text that are written one behind the other
module _ {X : Type 0} (f : X → List ℕ) (xs : List X) (i : ℕ) (x : X) (is : x ≡ get_or xs i x) (inside : i < length xs) where
  -- the pieces up to one are those ahead of it, and then it
  pub joined_next : flat_map f (take (i + 1) xs) ≡ flat_map f (take i xs) ++ f x
  joined_next = ap (flat_map f) (take_more xs i x inside) ∙ ap (λ y. flat_map f (take i xs ++ y ∷ [])) (sym is) ∙ sym (flat_map_more f [] (take i xs) x)

  -- there is room for it where there is room for all
  pub joined_room : length (flat_map f (take i xs)) + length (f x) ≤ length (flat_map f xs)
  joined_room =
      let a = ap length joined_next ∙ length-append (flat_map f (take i xs)) (f x) in
      let b = ap (λ ys. length (flat_map f ys)) (sym (take-append-drop (i + 1) xs)) ∙ ap length (flat_map-append f (take (i + 1) xs) (drop (i + 1) xs)) ∙ length-append (flat_map f (take (i + 1) xs)) (flat_map f (drop (i + 1) xs)) in
      omega arith

-- a line of a letter, some text and a line feed
pub line_length_lem : (b : ℕ) (t : List ℕ) → length (b ∷ (t ++ 10 ∷ [])) ≡ length t + 2
line_length_lem b t = omega (arith, length_push t 10)

-- three texts one behind the other
pub three_length : (s t u : List ℕ) → length (s ++ (t ++ u)) ≡ length s + (length t + length u)
three_length s t u = omega (arith, length-append s (t ++ u), length-append t u)
