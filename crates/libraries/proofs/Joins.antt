-- Taking two codes out of a page.
use Rattle.std.proofs.Common.{◌≡◌, ℕ, ◌+◌, ◌-◌, ◌<◌, List, [], ◌∷◌, ◌++◌, length, take, drop, replicate, ℤ, pos, sym, ap, ◌∙◌, arith, rules}
use borrow.Rule.Slice.PartMut.{put_mid, mid_of}
use Rattle.std.specs.List.{copy_within}
use Rattle.std.proofs.lemmas.List.{places, take_at, drop_all, length-drop, append_assoc, length-take-le}
use Rattle.std.proofs.lemmas.List.Edits.{paste_all}
use Rattle.libraries.specs.Page.{joined}

-- the codes behind two are copied over them, and the last two are zeros
pub two_taken : (cs moved zeros : List ℤ) (p : ℕ) → p < 255 → length cs ≡ 256 → moved ≡ copy_within cs (p + 2) 256 p → zeros ≡ replicate (length (mid_of 254 2 moved)) (pos 0) → put_mid 254 2 moved zeros ≡ joined cs p
two_taken cs moved zeros p low long em ez =
    let rest : 256 - (p + 2) ≡ length (drop (p + 2) cs) = search (rules, places) in
    let front : length (take p cs ++ drop (p + 2) cs) ≡ 254 = search (rules, places) in
    let whole : moved ≡ (take p cs ++ drop (p + 2) cs) ++ drop (p + (256 - (p + 2))) cs = em ∙ paste_all cs p (drop (p + 2) cs) _ rest ∙ sym (append_assoc (take p cs) (drop (p + 2) cs) _) in
    let kept : take 254 moved ≡ take p cs ++ drop (p + 2) cs = ap (take 254) whole ∙ take_at (take p cs ++ drop (p + 2) cs) _ 254 front in
    let size : length moved ≡ 256 = search (rules, places) in
    let none : drop 2 (drop 254 moved) ≡ [] = drop_all 2 (drop 254 moved) (simp length-drop (omega (arith, size))) in
    let two : length (mid_of 254 2 moved) ≡ 2 = length-take-le 2 (drop 254 moved) (simp length-drop (omega (arith, size))) in
    rw (kept, none, ez, two) (append_assoc (take p cs) (drop (p + 2) cs) (pos 0 ∷ (pos 0 ∷ [])))
