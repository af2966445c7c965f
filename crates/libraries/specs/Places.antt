-- What the search for the place of a key answers. Assumes nothing.
use Rattle.std.specs.Prelude.{◌≡◌, ℕ, ◌<◌, ◌≤◌, true, false, List, length, ℤ, Some, None, slice_index_or, slice_set, insert, remove}
use Rattle.libraries.specs.Index.{bound, lookup, has_key, entered, struck}
use Rattle.libraries.specs.declared.binding.Binding.{Binding}

-- a key stands at a place: its value is there, a new one is written there, and it is taken out there
pub record StandsAt (bs : List Binding) (k : ℤ) (p : ℕ) : Type 0 where
  pub inside : p < length bs
  pub present : has_key bs k ≡ true
  pub value : (d : Binding) → lookup bs k ≡ Some (slice_index_or bs p d).value
  pub replaced : (v : ℤ) → slice_set bs p (bound k v) ≡ entered bs k v
  pub taken : remove bs p ≡ struck bs k

-- a key stands nowhere, and goes to a place
pub record GoesAt (bs : List Binding) (k : ℤ) (p : ℕ) : Type 0 where
  pub inside : p ≤ length bs
  pub absent : has_key bs k ≡ false
  pub unbound : lookup bs k ≡ None
  pub put : (v : ℤ) → insert bs p (bound k v) ≡ entered bs k v
