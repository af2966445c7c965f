-- The rule of the index, over its bindings in the order of their keys. Assumes nothing.
use Rattle.std.specs.Prelude.{ℕ, Bool, true, false, if◌then◌else◌, ◌&&◌, ◌||◌, List, [], ◌∷◌, length, ℤ, Some, None, Option, ◌==◌, int_lt, nat_lt}
use Rattle.interface.specs.declared.value.Value.{Value}
use Rattle.interface.specs.declared.answers.LibraryAnswer.TheVariants.{Return}
use Rattle.libraries.specs.Arguments.{Step, raise, done, same, with_one, with_two}
use Rattle.libraries.specs.declared.binding.Binding.{Binding}

-- a key with its value
abbrev pub bound : ℤ → ℤ → Binding
bound k v = record { key = k; value = v }

-- a key is below every key of some bindings
abbrev pub below_all : ℤ → List Binding → Bool
below_all k [] = true
below_all k (b ∷ bs) = int_lt k b.key && below_all k bs

-- each key is below all keys behind it
abbrev pub ordered : List Binding → Bool
ordered [] = true
ordered (b ∷ bs) = below_all b.key bs && ordered bs

-- the value of a key, if it has one
abbrev pub lookup : List Binding → ℤ → Option ℤ
lookup [] k = None
lookup (b ∷ bs) k = if same b.key k then Some b.value else lookup bs k

-- a key has a value
abbrev pub has_key : List Binding → ℤ → Bool
has_key [] k = false
has_key (b ∷ bs) k = same b.key k || has_key bs k

-- the bindings with this one, in its place by the order of keys; the key's old value is replaced
abbrev pub entered : List Binding → ℤ → ℤ → List Binding
entered [] k v = bound k v ∷ []
entered (b ∷ bs) k v =
    if int_lt b.key k then b ∷ entered bs k v
    else if same b.key k then bound k v ∷ bs
    else bound k v ∷ (b ∷ bs)

-- the bindings without that of a key
abbrev pub struck : List Binding → ℤ → List Binding
struck [] k = []
struck (b ∷ bs) k = if same b.key k then bs else b ∷ struck bs k

-- a return of a value that there is; 1 for an absent key
abbrev pub found : List Binding → Option ℤ → Step (List Binding)
found bs None = raise 1 bs
found bs (Some v) = (Return v, bs)

-- find(k)
abbrev pub find_key : List Binding → ℤ → Step (List Binding)
find_key bs k = found bs (lookup bs k)

-- enter(k, v): 2 where the key is new and meets 32 others
abbrev pub enter_key : List Binding → ℤ → ℤ → Step (List Binding)
enter_key bs k v = if has_key bs k || nat_lt (length bs) 32 then done (entered bs k v) else raise 2 bs

-- strike(k): 1 for an absent key
abbrev pub strike_key : List Binding → ℤ → Step (List Binding)
strike_key bs k = if has_key bs k then done (struck bs k) else raise 1 bs

-- the rule of the index: 0 find, 1 enter, 2 strike, and 7 for another method
abbrev pub index_rule : List Binding → ℕ → List Value → Step (List Binding)
index_rule bs m vs =
    if m == 0 then with_one bs (find_key bs) vs
    else if m == 1 then with_two bs (enter_key bs) vs
    else if m == 2 then with_one bs (strike_key bs) vs
    else raise 7 bs
