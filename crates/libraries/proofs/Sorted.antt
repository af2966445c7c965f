-- Bindings in the order of their keys: entering and striking.
use Rattle.std.proofs.Common.{◌≡◌, true, false, List, [], ◌∷◌, ℤ, None, refl, subst, ⊎_elim, arith}
use lib.Signed.{lt_z}
use Rattle.std.proofs.lemmas.Int.{ints}
use Rattle.std.proofs.lemmas.Bool.{cases_Bool, and_parts, and_from}
use Rattle.libraries.specs.Arguments.{same}
use Rattle.libraries.specs.Index.{below_all, ordered, lookup, has_key, entered, struck}
use Rattle.libraries.specs.declared.binding.Binding.{Binding}

-- how two keys compare
pub data Order (a k : ℤ) : Type 0 where
  below : lt_z a k ≡ true → same a k ≡ false → Order a k
  equal : lt_z a k ≡ false → same a k ≡ true → a ≡ k → Order a k
  above : lt_z a k ≡ false → same a k ≡ false → lt_z k a ≡ true → Order a k

pub order : (a k : ℤ) → Order a k
order a k =
    ⊎_elim (λ l. below l (grind (arith, ints)))
    (λ l. ⊎_elim (λ s. equal l s (grind (arith, ints))) (λ n. above l n (grind (arith, ints))) (cases_Bool (same a k)))
    (cases_Bool (lt_z a k))

-- nothing has a key that is below all
pub none_below : (bs : List Binding) (k : ℤ) → below_all k bs ≡ true → (has_key bs k ≡ false) × (lookup bs k ≡ None)
none_below [] k h = (refl, refl)
none_below (b ∷ bs) k h =
    let both = and_parts (lt_z k b.key) (below_all k bs) h in
    let low = both.0 in
    let apart : same b.key k ≡ false = grind (arith, ints) in
    rw apart (none_below bs k both.1)

pub below_more : (bs : List Binding) (j k : ℤ) → lt_z j k ≡ true → below_all k bs ≡ true → below_all j bs ≡ true
below_more [] j k l h = refl
below_more (b ∷ bs) j k l h =
    let both = and_parts (lt_z k b.key) (below_all k bs) h in
    let low = both.0 in
    and_from _ _ (grind (arith, ints)) (below_more bs j k l both.1)

pub below_entered : (bs : List Binding) (j k v : ℤ) → lt_z j k ≡ true → below_all j bs ≡ true → below_all j (entered bs k v) ≡ true
below_entered [] j k v l h = and_from _ _ l refl
below_entered (b ∷ bs) j k v l h =
    let both = and_parts (lt_z j b.key) (below_all j bs) h in
    elim (order b.key k) [
      | below m n ↦ rw m (and_from _ _ both.0 (below_entered bs j k v l both.1))
      | equal m s e ↦ rw (m, s) (and_from _ _ l both.1)
      | above m n g ↦ rw (m, n) (and_from _ _ l h)
    ]

pub ordered_entered : (bs : List Binding) (k v : ℤ) → ordered bs ≡ true → ordered (entered bs k v) ≡ true
ordered_entered [] k v o = refl
ordered_entered (b ∷ bs) k v o =
    let both = and_parts (below_all b.key bs) (ordered bs) o in
    elim (order b.key k) [
      | below l n ↦ rw l (and_from _ _ (below_entered bs b.key k v l both.0) (ordered_entered bs k v both.1))
      | equal l s e ↦ rw (l, s) (and_from _ _ (subst (λ (j : ℤ). below_all j bs ≡ true) e both.0) both.1)
      | above l n g ↦ rw (l, n) (and_from _ _ (and_from _ _ g (below_more bs k b.key g both.0)) o)
    ]

pub below_struck : (bs : List Binding) (j k : ℤ) → below_all j bs ≡ true → below_all j (struck bs k) ≡ true
below_struck [] j k h = refl
below_struck (b ∷ bs) j k h =
    let both = and_parts (lt_z j b.key) (below_all j bs) h in
    ⊎_elim (λ s. rw s both.1) (λ n. rw n (and_from _ _ both.0 (below_struck bs j k both.1))) (cases_Bool (same b.key k))

pub ordered_struck : (bs : List Binding) (k : ℤ) → ordered bs ≡ true → ordered (struck bs k) ≡ true
ordered_struck [] k o = refl
ordered_struck (b ∷ bs) k o =
    let both = and_parts (below_all b.key bs) (ordered bs) o in
    ⊎_elim (λ s. rw s both.1) (λ n. rw n (and_from _ _ (below_struck bs b.key k both.0) (ordered_struck bs k both.1))) (cases_Bool (same b.key k))
