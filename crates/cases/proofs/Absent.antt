-- A table with no case left. Assumes nothing.
use Rattle.std.proofs.Common.{◌≡◌, ℕ, suc, Option, None, MatchOption, List, [], ◌∷◌, ◌++◌, Contains, slice_index_or, drop, refl, sym, ap, subst, ◌∙◌, arith}
use Rattle.std.proofs.lemmas.List.Elements.{Contains-append_right}
use Rattle.cases.specs.Parts.{HasNoCase}

has_first : (b : ℕ) (t : List ℕ) → Contains (b ∷ t) b
has_first b t = (0, omega arith, refl)

has_more : (a b : ℕ) (t : List ℕ) → Contains t b → Contains (a ∷ t) b
has_more a b t h = (suc h.0, omega (arith, h.1), h.2)

-- with no '%' in the whole table
pub without_mark : (table : List ℕ) → (Contains table 37 → ⊥) → HasNoCase table
without_mark table none text comment behind e = none (subst (λ t. Contains t 37) (sym e) (Contains-append_right text _ 37 (has_first 37 _)))

-- what stands behind the first '%' holds what stands behind another
behind_first : (front back text rest : List ℕ) → (Contains front 37 → ⊥) → front ++ 37 ∷ back ≡ text ++ 37 ∷ rest → Contains rest 10 → Contains back 10
behind_first [] back [] rest n e has = subst (λ t. Contains t 10) (sym (ap (drop 1) e)) has
behind_first [] back (t ∷ ts) rest n e has = subst (λ t. Contains t 10) (sym (ap (drop 1) e)) (Contains-append_right ts _ 10 (has_more 37 10 rest has))
behind_first (f ∷ fs) back [] rest n e has = absurd (n (0, omega arith, ap (λ l. slice_index_or l 0 37) e))
behind_first (f ∷ fs) back (t ∷ ts) rest n e has = behind_first fs back ts rest (λ h. n (has_more f 37 fs h)) (ap (drop 1) e) has

-- with no line feed behind the first '%'
pub without_end : (table front back : List ℕ) → table ≡ front ++ 37 ∷ back → (Contains front 37 → ⊥) → (Contains back 10 → ⊥) → HasNoCase table
without_end table front back e n none text comment behind f = none (behind_first front back text _ n (sym e ∙ f) (Contains-append_right comment _ 10 (has_first 10 _)))

-- the two facts of an outcome without a case
pub at_none : {A : Type 0} {o : Option A} (P P' : Type 0) (Q : A → Type 0) → o ≡ None → P → P' → MatchOption o (P × P') Q
at_none P P' Q e p p' = let both : P × P' = (p, p') in subst (λ r. MatchOption r (P × P') Q) (sym e) both
