-- Texts put one behind the other. Assumes nothing.
use Rattle.std.proofs.Common.{◌≡◌, ℕ, ◌+◌, ◌-◌, ◌<◌, ◌≤◌, List, [], ◌++◌, length, get_or, take, drop, sym, refl, ap, ◌∙◌, subst, arith}
use borrow.Rule.Slice.PartMut.{put_mid}
use Rattle.std.specs.List.{flat_map}
use Rattle.std.proofs.lemmas.List.{append_assoc, append-nil, length-append, length-drop, length-take-le, drop-drop, take_at, drop_at}
use Rattle.sheet.specs.Columns.{column}
use Rattle.sheet_laws.proofs.Places.{placed_column, length_column, joined_next, joined_room}
use Rattle.sheet_text.specs.Output.{written, left, Fits, Put}
use Rattle.sheet_text.specs.declared.output.Output.{Output}

-- nothing is put
pub put_none : (o : Output) → Put [] o o
put_none o = record { more = sym (append-nil (written o)); rest = refl; same_buffer = refl }

module _ (t u : List ℕ) (a b : Output) (p : Put t a b) where
  -- one text behind another
  pub put_more : (c : Output) → Put u b c → Put (t ++ u) a c
  put_more c q = record {
    more = q.more ∙ ap (λ w. w ++ u) p.more ∙ append_assoc (written a) t u;
    rest = q.rest ∙ ap (drop (length u)) p.rest ∙ drop-drop (length u) (length t) (left a) ∙ ap (λ k. drop k (left a)) (sym (length-append t u));
    same_buffer = q.same_buffer ∙ p.same_buffer;
  }

-- pieces put one behind the other
module _ {X : Type 0} (f : X → List ℕ) (xs : List X) (i : ℕ) (x : X) (is : x ≡ get_or xs i x) (inside : i < length xs) (a b : Output) (before : Put (flat_map f (take i xs)) a b) where
  pub next_fits : Fits (flat_map f xs) a → Fits (f x) b
  next_fits h = omega (arith, joined_room f xs i x is inside, ap length before.rest, length-drop (length (flat_map f (take i xs))) (left a))

  pub next_put : (c : Output) → Put (f x) b c → Put (flat_map f (take (i + 1) xs)) a c
  next_put c q = subst (λ t. Put t a c) (sym (joined_next f xs i x is inside)) (put_more (flat_map f (take i xs)) (f x) a b before c q)

-- a column is written into the part of a buffer that comes next
pub part_put : (at w : ℕ) (E W t : List ℕ) → 0 < w → w ≤ length (drop at E) → length t ≤ w → W ≡ column (length (take (at + w - at) (drop at E))) t → (take (at + w) (put_mid at (at + w - at) E W) ≡ take at E ++ column w t) × (drop (at + w) (put_mid at (at + w - at) E W) ≡ drop (length (column w t)) (drop at E))
part_put at w E W t some h s e =
    let col = column w t in
    let behind = drop (at + length col) E in
    let d = length-drop at E in
    let n = length-take-le at E (omega arith) in
    let l = length_column w t s in
    let m : length (take at E ++ col) ≡ at + w = omega (arith, length-append (take at E) col) in
    let p = placed_column at w E W t (omega arith) s e ∙ sym (append_assoc (take at E) col behind) in
    (ap (take (at + w)) p ∙ take_at (take at E ++ col) behind (at + w) m, ap (drop (at + w)) p ∙ drop_at (take at E ++ col) behind (at + w) m ∙ sym (drop-drop (length col) at E))
