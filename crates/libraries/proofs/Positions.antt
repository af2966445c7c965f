-- What a binary search for a key finds in ordered bindings, and what an edit at that place does.
use Rattle.std.proofs.Common.{◌≡◌, ℕ, zero, suc, ◌<◌, ◌≤◌, true, false, List, [], ◌∷◌, length, get_or, set, ℤ, pos, Ok, Err, Result, MatchResult, sym, refl, ap, ◌∙◌, arith}
use lib.Signed.{lt_z}
use Rattle.std.specs.List.{insert, remove, refill}
use Rattle.std.specs.List.Sorted.{IsSearchInRange, IsBinarySearchResult, IsNonDecreasingBy}
use Rattle.std.specs.Ordering.{int_cmp, ordering_index}
use Rattle.std.proofs.lemmas.Int.{ints}
use Rattle.std.proofs.lemmas.Cmp.{int_ranked}
use Rattle.std.proofs.lemmas.Bool.{and_parts}
use Rattle.std.proofs.lemmas.List.{length-set, take_at}
use Rattle.std.proofs.lemmas.List.Edits.{length-insert, length-remove}
use Rattle.std.proofs.lemmas.List.Sorted.{IsNonDecreasingBy-from_default}
use Rattle.libraries.specs.Arguments.{done, same}
use Rattle.libraries.specs.Index.{bound, below_all, ordered, enter_key}
use Rattle.libraries.specs.IndexLaws.{Canonical}
use Rattle.libraries.specs.Places.{StandsAt, GoesAt}
use Rattle.libraries.specs.declared.binding.Binding.{Binding}
use Rattle.libraries.proofs.Sorted.{ordered_entered, ordered_struck}

-- the key at a place
abbrev key_at : List Binding → ℕ → ℤ
key_at bs i = (get_or bs i (bound (pos 0) (pos 0))).key

below_at : (bs : List Binding) (k : ℤ) (i : ℕ) → below_all k bs ≡ true → i < length bs → lt_z k (key_at bs i) ≡ true
below_at [] k i h l = absurd (omega arith)
below_at (b ∷ bs) k zero h l = (and_parts (lt_z k b.key) (below_all k bs) h).0
below_at (b ∷ bs) k (suc i) h l = below_at bs k i (and_parts (lt_z k b.key) (below_all k bs) h).1 (omega arith)

keys_rise : (bs : List Binding) (i j : ℕ) → ordered bs ≡ true → i < j → j < length bs → lt_z (key_at bs i) (key_at bs j) ≡ true
keys_rise [] i j o l h = absurd (omega arith)
keys_rise (b ∷ bs) zero zero o l h = absurd (omega arith)
keys_rise (b ∷ bs) zero (suc j) o l h = below_at bs b.key j (and_parts (below_all b.key bs) (ordered bs) o).0 (omega arith)
keys_rise (b ∷ bs) (suc i) zero o l h = absurd (omega arith)
keys_rise (b ∷ bs) (suc i) (suc j) o l h = keys_rise bs i j (and_parts (below_all b.key bs) (ordered bs) o).1 (omega arith) (omega arith)

pub stands : (bs : List Binding) (k : ℤ) (p : ℕ) → ordered bs ≡ true → p < length bs → key_at bs p ≡ k → StandsAt bs k p
stands [] k p o l e = absurd (omega arith)
stands (b ∷ bs) k zero o l e =
    let here : same b.key k ≡ true = grind (arith, ints) in
    let level : lt_z b.key k ≡ false = grind (arith, ints) in
    record { inside = l; present = rw here; value = λ d. rw here; replaced = λ v. rw (level, here); taken = rw here }
stands (b ∷ bs) k (suc p) o l e =
    let both = and_parts (below_all b.key bs) (ordered bs) o in
    let rest = stands bs k p both.1 (omega arith) e in
    let low : lt_z b.key k ≡ true = rw (sym e) (below_at bs b.key p both.0 (omega arith)) in
    let apart : same b.key k ≡ false = grind (arith, ints) in
    record {
      inside = l;
      present = rw apart rest.present;
      value = λ d. rw apart (rest.value d);
      replaced = λ v. rw low (ap (λ t. b ∷ t) (rest.replaced v));
      taken = rw apart (ap (λ t. b ∷ t) rest.taken);
    }

pub goes : (bs : List Binding) (k : ℤ) (p : ℕ) → p ≤ length bs → ((i : ℕ) → i < p → lt_z (key_at bs i) k ≡ true) → ((i : ℕ) → p ≤ i → i < length bs → lt_z k (key_at bs i) ≡ true) → GoesAt bs k p
goes [] k zero l below above = record { inside = l; absent = refl; unbound = refl; put = λ v. refl }
goes [] k (suc p) l below above = absurd (omega arith)
goes (b ∷ bs) k zero l below above =
    let rest = goes bs k zero (omega arith) (λ i h. absurd (omega arith)) (λ i le h. above (suc i) (omega arith) (omega arith)) in
    let high : lt_z k b.key ≡ true = above zero (omega arith) (omega arith) in
    let apart : same b.key k ≡ false = grind (arith, ints) in
    let level : lt_z b.key k ≡ false = grind (arith, ints) in
    record { inside = l; absent = rw apart rest.absent; unbound = rw apart rest.unbound; put = λ v. rw (level, apart) }
goes (b ∷ bs) k (suc p) l below above =
    let rest = goes bs k p (omega arith) (λ i h. below (suc i) (omega arith)) (λ i le h. above (suc i) (omega arith) (omega arith)) in
    let low : lt_z b.key k ≡ true = below zero (omega arith) in
    let apart : same b.key k ≡ false = grind (arith, ints) in
    record {
      inside = l;
      absent = rw apart rest.absent;
      unbound = rw apart rest.unbound;
      put = λ v. rw low (ap (λ t. b ∷ t) (rest.put v));
    }

module _ (bs : List Binding) (o : ordered bs ≡ true) (k : ℤ) where
  -- the comparisons with k rise along the bindings, as a binary search asks
  comparisons_rise : IsNonDecreasingBy (λ b. ordering_index (int_cmp b.key k)) bs
  comparisons_rise = IsNonDecreasingBy-from_default (λ b. ordering_index (int_cmp b.key k)) bs (bound (pos 0) (pos 0)) (λ i j le inside.
      grind (arith, ints, keys_rise bs i j o, λ (same : i ≡ j). ap (key_at bs) same))

  pub searched : (j : ℤ) → j ≡ k → (r : Result ℕ ℕ) → IsSearchInRange r (length bs) → IsBinarySearchResult (λ b. int_cmp b.key j) bs r → MatchResult r (StandsAt bs k) (GoesAt bs k)
  searched j e (Ok p) inside equal = stands bs k p o inside (rw (sym e) (int_ranked _ j _ (sym (equal (bound (pos 0) (pos 0))))))
  searched j e (Err p) inside parted =
      let parts = rw e at parted in
      goes bs k p inside
      (λ i l. let low = int_ranked (key_at bs i) k _ (sym ((parts comparisons_rise).0 i (bound (pos 0) (pos 0)) (omega arith) l)) in grind (arith, ints))
      (λ i le l. let high = int_ranked (key_at bs i) k _ (sym ((parts comparisons_rise).1 i (bound (pos 0) (pos 0)) le l)) in grind (arith, ints))

-- an element written through a slice of all elements is written
pub refill-set : {X : Type 0} (xs : List X) (i : ℕ) (x : X) → refill (length xs) xs (set xs i x) ≡ set xs i x
refill-set xs i x = take_at (set xs i x) _ (length xs) (length-set xs i x)

module _ (bs : List Binding) (now : Canonical bs) (k : ℤ) (p : ℕ) where
  pub canonical_set : StandsAt bs k p → (v : ℤ) → Canonical (set bs p (bound k v))
  canonical_set here v = record { few = simp length-set now.few; sorted = ap ordered (here.replaced v) ∙ ordered_entered bs k v now.sorted }

  pub canonical_inserted : GoesAt bs k p → (v : ℤ) → length bs < 32 → Canonical (insert bs p (bound k v))
  canonical_inserted there v room = record {
    few = omega (arith, length-insert bs p (bound k v) there.inside);
    sorted = ap ordered (there.put v) ∙ ordered_entered bs k v now.sorted;
  }

  pub canonical_removed : StandsAt bs k p → Canonical (remove bs p)
  canonical_removed here = record {
    few = omega (arith, now.few, length-remove bs p here.inside);
    sorted = ap ordered here.taken ∙ ordered_struck bs k now.sorted;
  }

-- a key that stands at a place is entered there
pub enters_there : (bs : List Binding) (k v : ℤ) (p : ℕ) → StandsAt bs k p → done (set bs p (bound k v)) ≡ enter_key bs k v
enters_there bs k v p here = rw here.present (ap done (here.replaced v))
