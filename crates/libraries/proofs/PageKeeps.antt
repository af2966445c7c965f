-- The laws of the page.
use Rattle.std.proofs.Common.{◌≡◌, ℕ, ◌+◌, ◌<◌, true, false, not, eqb, ltb, List, [], ◌∷◌, ◌++◌, length, get_or, take, drop, set, ℤ, pos, negsuc, sym, refl, ap, ◌∙◌, arith, rules}
use lib.Signed.{le_z}
use Rattle.interface.specs.Equality.{Call, library_after}
use Rattle.interface.specs.Values.{number_of}
use Rattle.interface.specs.declared.value.Value.{Value}
use Rattle.interface.specs.declared.answers.LibraryAnswer.TheVariants.{Return}
use Rattle.std.proofs.lemmas.List.{length-set, get_or-set_same, get_or-set_other, places, take_at, drop_at, drop_more, take-append-drop, length-take-le, append_assoc}
use Rattle.std.proofs.lemmas.Int.{ints}
use Rattle.std.proofs.lemmas.Bool.{cond_both, ltb-true, and_parts, not-true, lt-ltb}
use Rattle.libraries.proofs.Answered.{no_return, same_is}
use Rattle.libraries.specs.Arguments.{Step, done, same, with_one, with_two}
use Rattle.libraries.specs.Page.{code_at, read_at, put_code, put_at, joined, hyphenated, join_at, page_rule}
use Rattle.libraries.specs.PageLaws.{puts_at, joins_up_to, may_write, none_writes, PutIsRead, JoinKeepsTheRest}

-- a step leaves a page of 256 codes, with the same code at p
abbrev Keeps : List ℤ → ℕ → Step (List ℤ) → Type 0
Keeps cs p s = (length s.1 ≡ 256) × (code_at s.1 p ≡ code_at cs p)

module _ (cs : List ℤ) (p : ℕ) (long : length cs ≡ 256) where
  still : (length cs ≡ 256) × (code_at cs p ≡ code_at cs p)
  still = (long, refl)

  read_keeps : (z : ℤ) → Keeps cs p (read_at cs z)
  read_keeps (negsuc k) = still
  read_keeps (pos q) = cond_both (ltb q 256) _ _ (Keeps cs p) (λ _. still) (λ _. still)

  put_code_keeps : (q : ℕ) (z : ℤ) → (p ≡ q → ⊥) → Keeps cs p (put_code cs q z)
  put_code_keeps q (negsuc k) ne = still
  put_code_keeps q (pos c) ne =
      cond_both (ltb c 1114112) _ _ (Keeps cs p)
      (λ _. (simp length-set long, get_or-set_other cs q p (pos c) (pos 0) ne)) (λ _. still)

  put_keeps : (z c : ℤ) → same z (pos p) ≡ false → Keeps cs p (put_at cs z c)
  put_keeps (negsuc k) c ne = still
  put_keeps (pos q) c ne =
      cond_both (ltb q 256) _ _ (Keeps cs p)
      (λ _. put_code_keeps q c (λ e. grind (arith, ints))) (λ _. still)

  join_keeps : (z : ℤ) → le_z z (pos p) ≡ false → Keeps cs p (join_at cs z)
  join_keeps (negsuc k) above = still
  join_keeps (pos q) above =
      let over : p < q = grind (arith, ints) in
      cond_both (ltb q 255) _ _ (Keeps cs p)
      (λ e. let low : q < 255 = ltb-true q 255 e in
      cond_both (hyphenated cs q) _ _ (Keeps cs p)
      (λ _. (search (rules, places), grind (arith, places))) (λ _. still))
      (λ _. still)

  puts_keep : (vs : List Value) → puts_at p vs ≡ false → Keeps cs p (with_two cs (put_at cs) vs)
  puts_keep [] ne = still
  puts_keep (v ∷ []) ne = still
  puts_keep (v ∷ (w ∷ [])) ne = put_keeps (number_of v) (number_of w) ne
  puts_keep (v ∷ (w ∷ (x ∷ more))) ne = still

  joins_keep : (vs : List Value) → joins_up_to p vs ≡ false → Keeps cs p (with_one cs (join_at cs) vs)
  joins_keep [] above = still
  joins_keep (v ∷ []) above = join_keeps (number_of v) above
  joins_keep (v ∷ (w ∷ more)) above = still

  reads_keep : (vs : List Value) → Keeps cs p (with_one cs (read_at cs) vs)
  reads_keep [] = still
  reads_keep (v ∷ []) = read_keeps (number_of v)
  reads_keep (v ∷ (w ∷ more)) = still

  call_keeps : (m : ℕ) (vs : List Value) → may_write p m vs ≡ false → Keeps cs p (page_rule cs m vs)
  call_keeps m vs h =
      cond_both (eqb m 0) _ _ (Keeps cs p) (λ _. reads_keep vs)
      (λ _. cond_both (eqb m 1) _ _ (Keeps cs p) (λ e. puts_keep vs (rw e at h))
      (λ e. cond_both (eqb m 2) _ _ (Keeps cs p) (λ f. joins_keep vs (rw (e, f) at h)) (λ _. still)))

calls_keep : (cs : List ℤ) (p : ℕ) (calls : List Call) → length cs ≡ 256 → none_writes p calls ≡ true → code_at (library_after page_rule cs calls) p ≡ code_at cs p
calls_keep cs p [] long h = refl
calls_keep cs p ((m, vs) ∷ calls) long h =
    let both = and_parts (not (may_write p m vs)) (none_writes p calls) h in
    let kept = call_keeps cs p long m vs (not-true _ both.0) in
    calls_keep (page_rule cs m vs).1 p calls kept.0 both.1 ∙ kept.1

pub put_is_read : PutIsRead
put_is_read cs p c calls long inside range h =
    let put : put_at cs (pos p) (pos c) ≡ done (set cs p (pos c)) = rw (lt-ltb p 256 inside, lt-ltb c 1114112 range) in
    let at : code_at (library_after page_rule (set cs p (pos c)) calls) p ≡ pos c = calls_keep (set cs p (pos c)) p calls (simp length-set long) h ∙ get_or-set_same cs p (pos c) (pos 0) (omega arith) in
    rw (put, lt-ltb p 256 inside) (ap Return at)

-- a page is what stands ahead of two places, the two codes there, and the rest
split_two : (cs : List ℤ) (p : ℕ) (a b : ℤ) → length cs ≡ 256 → p < 255 → code_at cs p ≡ a → code_at cs (p + 1) ≡ b → take p cs ++ (a ∷ (b ∷ drop (p + 2) cs)) ≡ cs
split_two cs p a b long low ea eb =
    let first : drop p cs ≡ get_or cs p (pos 0) ∷ drop (p + 1) cs = drop_more cs p (pos 0) (omega arith) in
    let second : drop (p + 1) cs ≡ get_or cs (p + 1) (pos 0) ∷ drop (p + 1 + 1) cs = drop_more cs (p + 1) (pos 0) (omega arith) in
    let two_on : drop (p + 1 + 1) cs ≡ drop (p + 2) cs = ap (λ n. drop n cs) (omega arith) in
    let whole : take p cs ++ drop p cs ≡ cs = take-append-drop p cs in
    cc

put_back : (cs new : List ℤ) (p : ℕ) → length cs ≡ 256 → p < 255 → code_at cs p ≡ pos 45 → code_at cs (p + 1) ≡ pos 10 → new ≡ joined cs p → take p new ++ (pos 45 ∷ (pos 10 ∷ drop p new)) ≡ cs ++ (pos 0 ∷ (pos 0 ∷ []))
put_back cs new p long low ea eb e =
    let front : take p new ≡ take p cs = ap (take p) e ∙ take_at (take p cs) _ p (length-take-le p cs (omega arith)) in
    let back : drop p new ≡ drop (p + 2) cs ++ (pos 0 ∷ (pos 0 ∷ [])) = ap (drop p) e ∙ drop_at (take p cs) _ p (length-take-le p cs (omega arith)) in
    let whole = split_two cs p (pos 45) (pos 10) long low ea eb in
    let regroup : (take p cs ++ (pos 45 ∷ (pos 10 ∷ drop (p + 2) cs))) ++ (pos 0 ∷ (pos 0 ∷ [])) ≡ take p cs ++ (pos 45 ∷ (pos 10 ∷ (drop (p + 2) cs ++ (pos 0 ∷ (pos 0 ∷ []))))) = append_assoc (take p cs) (pos 45 ∷ (pos 10 ∷ drop (p + 2) cs)) (pos 0 ∷ (pos 0 ∷ [])) in
    cc

pub join_keeps_the_rest : JoinKeepsTheRest
join_keeps_the_rest cs new p long =
    cond_both (ltb p 255) _ _ (λ s. s ≡ done new → take p new ++ (pos 45 ∷ (pos 10 ∷ drop p new)) ≡ cs ++ (pos 0 ∷ (pos 0 ∷ [])))
    (λ l. cond_both (hyphenated cs p) _ _ (λ s. s ≡ done new → take p new ++ (pos 45 ∷ (pos 10 ∷ drop p new)) ≡ cs ++ (pos 0 ∷ (pos 0 ∷ [])))
    (λ h e. let both = and_parts (same (code_at cs p) (pos 45)) (same (code_at cs (p + 1)) (pos 10)) h in
    put_back cs new p long (ltb-true p 255 l) (same_is _ _ both.0) (same_is _ _ both.1) (sym (ap (λ (x : Step (List ℤ)). x.1) e)))
    (λ _ e. absurd (no_return 3 cs new e)))
    (λ _ e. absurd (no_return 1 cs new e))
