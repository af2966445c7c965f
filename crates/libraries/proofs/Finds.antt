-- The laws of the index.
use Rattle.std.proofs.Common.{◌≡◌, ℕ, suc, ◌≤◌, true, false, cond, ◌||◌, eqb, ltb, List, [], ◌∷◌, length, ℤ, pos, Some, None, Option, sym, refl, ap, ◌∙◌, subst, ⊎_elim, le_trans, arith}
use lib.Signed.{lt_z}
use Rattle.interface.specs.Equality.{Call, library_after}
use Rattle.interface.specs.Values.{number_of}
use Rattle.interface.specs.declared.value.Value.{Value}
use Rattle.interface.specs.declared.answers.LibraryAnswer.TheVariants.{Return, Raise}
use Rattle.std.proofs.lemmas.Int.{ints}
use Rattle.std.proofs.lemmas.Bool.{cases_Bool, and_parts, cond_both, ltb-true, or_cases, both_ways}
use Rattle.libraries.specs.Arguments.{Step, done, same, with_one, with_two}
use Rattle.libraries.specs.Index.{bound, below_all, ordered, lookup, has_key, entered, struck, found, find_key, enter_key, strike_key, index_rule}
use Rattle.libraries.specs.IndexLaws.{find_answer, OthersAsBefore, FindAfterEnter, FindAfterStrike, Canonical, StaysCanonical, SameValuesSameState}
use Rattle.libraries.specs.declared.binding.Binding.{Binding}
use Rattle.libraries.proofs.Answered.{no_return, same_is}
use Rattle.libraries.proofs.Sorted.{below, equal, above, order, none_below, below_more, ordered_entered, ordered_struck}

same_self : (k : ℤ) → same k k ≡ true
same_self k = grind (arith, ints)

not_same : (j k : ℤ) → (j ≡ k → ⊥) → same k j ≡ false
not_same j k ne = grind (arith, ints)

lookup_entered : (bs : List Binding) (k v : ℤ) → lookup (entered bs k v) k ≡ Some v
lookup_entered [] k v = rw (same_self k)
lookup_entered (b ∷ bs) k v =
    elim (order b.key k) [
      | below l n ↦ rw (l, n) (lookup_entered bs k v)
      | equal l s e ↦ rw (l, s, same_self k)
      | above l n g ↦ rw (l, n, same_self k)
    ]

lookup_entered_other : (bs : List Binding) (k v j : ℤ) → (j ≡ k → ⊥) → lookup (entered bs k v) j ≡ lookup bs j
lookup_entered_other [] k v j ne = rw (not_same j k ne)
lookup_entered_other (b ∷ bs) k v j ne =
    elim (order b.key k) [
      | below l n ↦ rw l (ap (cond (same b.key j) (Some b.value)) (lookup_entered_other bs k v j ne))
      | equal l s e ↦ let other : same b.key j ≡ false = ap (λ (a : ℤ). same a j) e ∙ not_same j k ne in rw (l, s, not_same j k ne, other)
      | above l n g ↦ rw (l, n, not_same j k ne)
    ]

lookup_struck : (bs : List Binding) (k : ℤ) → ordered bs ≡ true → lookup (struck bs k) k ≡ None
lookup_struck [] k o = refl
lookup_struck (b ∷ bs) k o =
    let both = and_parts (below_all b.key bs) (ordered bs) o in
    ⊎_elim
    (λ s. let low : below_all k bs ≡ true = subst (λ (a : ℤ). below_all a bs ≡ true) (same_is b.key k s) both.0 in rw s (none_below bs k low).1)
    (λ n. let m : same b.key k ≡ false = n in rw m (rw m (lookup_struck bs k both.1)))
    (cases_Bool (same b.key k))

lookup_struck_other : (bs : List Binding) (k j : ℤ) → (j ≡ k → ⊥) → lookup (struck bs k) j ≡ lookup bs j
lookup_struck_other [] k j ne = refl
lookup_struck_other (b ∷ bs) k j ne =
    ⊎_elim
    (λ s. let other : same b.key j ≡ false = ap (λ (a : ℤ). same a j) (same_is b.key k s) ∙ not_same j k ne in rw (s, other))
    (λ n. rw n (ap (cond (same b.key j) (Some b.value)) (lookup_struck_other bs k j ne)))
    (cases_Bool (same b.key k))

-- the answer of a find depends on the value alone
found_alike : (bs cs : List Binding) (o q : Option ℤ) → o ≡ q → (found bs o).0 ≡ (found cs q).0
found_alike bs cs o None e = rw e
found_alike bs cs o (Some v) e = rw e

pub find_after_enter : FindAfterEnter
find_after_enter bs new k v =
    cond_both (has_key bs k || ltb (length bs) 32) _ _ (λ s. s ≡ done new → (find_answer new k ≡ Return v) × OthersAsBefore bs new k)
    (λ _ e. let is : new ≡ entered bs k v = sym (ap (λ (x : Step (List Binding)). x.1) e) in (
      found_alike new new (lookup new k) (Some v) (ap (λ (t : List Binding). lookup t k) is ∙ lookup_entered bs k v),
      (λ j ne. found_alike new bs (lookup new j) (lookup bs j) (ap (λ (t : List Binding). lookup t j) is ∙ lookup_entered_other bs k v j ne)),
    ))
    (λ _ e. absurd (no_return 2 bs new e))

pub find_after_strike : FindAfterStrike
find_after_strike bs new k o =
    cond_both (has_key bs k) _ _ (λ s. s ≡ done new → (find_answer new k ≡ Raise (pos 1)) × OthersAsBefore bs new k)
    (λ _ e. let is : new ≡ struck bs k = sym (ap (λ (x : Step (List Binding)). x.1) e) in (
      found_alike new new (lookup new k) None (ap (λ (t : List Binding). lookup t k) is ∙ lookup_struck bs k o),
      (λ j ne. found_alike new bs (lookup new j) (lookup bs j) (ap (λ (t : List Binding). lookup t j) is ∙ lookup_struck_other bs k j ne)),
    ))
    (λ _ e. absurd (no_return 1 bs new e))

length_entered : (bs : List Binding) (k v : ℤ) → length (entered bs k v) ≤ suc (length bs)
length_entered [] k v = omega arith
length_entered (b ∷ bs) k v =
    elim (order b.key k) [ below l n ↦ rw l (omega (arith, length_entered bs k v)) | equal l s e ↦ rw (l, s) (omega arith) | above l n g ↦ rw (l, n) (omega arith) ]

length_replaced : (bs : List Binding) (k v : ℤ) → ordered bs ≡ true → has_key bs k ≡ true → length (entered bs k v) ≤ length bs
length_replaced [] k v o h = absurd (both_ways false refl h)
length_replaced (b ∷ bs) k v o h =
    let both = and_parts (below_all b.key bs) (ordered bs) o in
    elim (order b.key k) [
      | below l n ↦ rw l (omega (arith, length_replaced bs k v both.1 (rw n at h)))
      | equal l s e ↦ rw (l, s) (omega arith)
      | above l n g ↦ absurd (both_ways (has_key bs k) (none_below bs k (below_more bs k b.key g both.0)).0 (rw n at h))
    ]

length_struck : (bs : List Binding) (k : ℤ) → length (struck bs k) ≤ length bs
length_struck [] k = omega arith
length_struck (b ∷ bs) k =
    ⊎_elim (λ s. rw s (omega arith)) (λ n. rw n (omega (arith, length_struck bs k))) (cases_Bool (same b.key k))

abbrev CanonicalAfter : Step (List Binding) → Type 0
CanonicalAfter s = Canonical s.1

module _ (bs : List Binding) (now : Canonical bs) where
  find_canonical : (o : Option ℤ) → CanonicalAfter (found bs o)
  find_canonical None = now
  find_canonical (Some v) = now

  enter_canonical : (k v : ℤ) → CanonicalAfter (enter_key bs k v)
  enter_canonical k v =
      let small = now.few in
      let sorted = ordered_entered bs k v now.sorted in
      cond_both (has_key bs k || ltb (length bs) 32) _ _ CanonicalAfter
      (λ h. record { few = ⊎_elim (λ old. let kept = length_replaced bs k v now.sorted old in le_trans kept small) (λ new. omega (arith, length_entered bs k v, ltb-true (length bs) 32 new)) (or_cases _ _ h); sorted = sorted })
      (λ _. now)

  strike_canonical : (k : ℤ) → CanonicalAfter (strike_key bs k)
  strike_canonical k =
      let small = now.few in
      cond_both (has_key bs k) _ _ CanonicalAfter
      (λ _. record { few = omega (arith, length_struck bs k); sorted = ordered_struck bs k now.sorted })
      (λ _. now)

  one_canonical : (f : ℤ → Step (List Binding)) (vs : List Value) → ((k : ℤ) → CanonicalAfter (f k)) → CanonicalAfter (with_one bs f vs)
  one_canonical f [] h = now
  one_canonical f (v ∷ []) h = h (number_of v)
  one_canonical f (v ∷ (w ∷ more)) h = now

  two_canonical : (f : ℤ → ℤ → Step (List Binding)) (vs : List Value) → ((k v : ℤ) → CanonicalAfter (f k v)) → CanonicalAfter (with_two bs f vs)
  two_canonical f [] h = now
  two_canonical f (v ∷ []) h = now
  two_canonical f (v ∷ (w ∷ [])) h = h (number_of v) (number_of w)
  two_canonical f (v ∷ (w ∷ (x ∷ more))) h = now

  call_canonical : (m : ℕ) (vs : List Value) → CanonicalAfter (index_rule bs m vs)
  call_canonical m vs =
      cond_both (eqb m 0) _ _ CanonicalAfter (λ _. one_canonical (find_key bs) vs (λ k. find_canonical (lookup bs k)))
      (λ _. cond_both (eqb m 1) _ _ CanonicalAfter (λ _. two_canonical (enter_key bs) vs enter_canonical)
      (λ _. cond_both (eqb m 2) _ _ CanonicalAfter (λ _. one_canonical (strike_key bs) vs strike_canonical) (λ _. now)))

calls_canonical : (bs : List Binding) (calls : List Call) → Canonical bs → Canonical (library_after index_rule bs calls)
calls_canonical bs [] now = now
calls_canonical bs ((m, vs) ∷ calls) now = calls_canonical (index_rule bs m vs).1 calls (call_canonical bs now m vs)

pub stays_canonical : StaysCanonical
stays_canonical = record { made = record { few = omega arith; sorted = refl }; after = calls_canonical }

some_none : (v : ℤ) → Some v ≡ None → ⊥
some_none v e = let z : ◌≡◌ {A = ℕ} 0 1 = cc in omega arith

-- the first key of some bindings has its value, and a key below it has none
first_value : (b : Binding) (bs : List Binding) → lookup (b ∷ bs) b.key ≡ Some b.value
first_value b bs = rw (same_self b.key)

below_first : (b : Binding) (bs : List Binding) (k : ℤ) → ordered (b ∷ bs) ≡ true → lt_z k b.key ≡ true → lookup (b ∷ bs) k ≡ None
below_first b bs k o l =
    let both = and_parts (below_all b.key bs) (ordered bs) o in
    let apart : same b.key k ≡ false = grind (arith, ints) in
    rw apart (none_below bs k (below_more bs k b.key l both.0)).1

same_rest : (b : Binding) (bs cs : List Binding) → below_all b.key bs ≡ true → below_all b.key cs ≡ true → ((k : ℤ) → lookup (b ∷ bs) k ≡ lookup (b ∷ cs) k) → (k : ℤ) → lookup bs k ≡ lookup cs k
same_rest b bs cs lb lc h k =
    ⊎_elim
    (λ s. let e = same_is b.key k s in
    subst (λ (a : ℤ). lookup bs a ≡ lookup cs a) e ((none_below bs b.key lb).1 ∙ sym (none_below cs b.key lc).1))
    (λ n. rw n at (h k))
    (cases_Bool (same b.key k))

pub same_binding : (k j v w : ℤ) → k ≡ j → v ≡ w → bound k v ≡ bound j w
same_binding k j v w e f = cc

same_first : (b c : Binding) → b.key ≡ c.key → b.value ≡ c.value → b ≡ c
same_first b c e f = same_binding b.key c.key b.value c.value e f

pub same_values_same_state : SameValuesSameState
same_values_same_state [] [] ob oc h = refl
same_values_same_state [] (c ∷ cs) ob oc h = absurd (some_none c.value (sym (first_value c cs) ∙ sym (h c.key)))
same_values_same_state (b ∷ bs) [] ob oc h = absurd (some_none b.value (sym (first_value b bs) ∙ h b.key))
same_values_same_state (b ∷ bs) (c ∷ cs) ob oc h =
    let bb = and_parts (below_all b.key bs) (ordered bs) ob in
    let cc' = and_parts (below_all c.key cs) (ordered cs) oc in
    elim (order b.key c.key) [
      | below l n ↦ absurd (some_none b.value (sym (first_value b bs) ∙ h b.key ∙ below_first c cs b.key oc l))
      | equal l s e ↦
          let v : Some b.value ≡ Some c.value = sym (first_value b bs) ∙ h b.key ∙ ap (lookup (c ∷ cs)) e ∙ first_value c cs in
          let value : b.value ≡ c.value = cc in
          let first : b ≡ c = same_first b c e value in
          let low : below_all b.key cs ≡ true = subst (λ (a : ℤ). below_all a cs ≡ true) (sym e) cc'.0 in
          let rest = same_rest b bs cs bb.0 low (λ k. h k ∙ ap (λ (x : Binding). lookup (x ∷ cs) k) (sym first)) in
          ap (λ (x : Binding). x ∷ bs) first ∙ ap (λ (t : List Binding). c ∷ t) (same_values_same_state bs cs bb.1 cc'.1 rest)
      | above l n g ↦ absurd (some_none c.value (sym (first_value c cs) ∙ sym (h c.key) ∙ below_first b bs c.key ob g))
    ]
