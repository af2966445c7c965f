-- How the methods of a stored sheet share a list. Assumes nothing.
use Rattle.std.specs.Prelude.{◌≡◌, ℕ, ◌≤◌, List, [], ◌∷◌}
use Rattle.sheet_store.specs.declared.stored.Header.{Header}
use Rattle.sheet_store.specs.declared.stored.Part.{Part}
use Rattle.sheet_store.specs.declared.stored.Part.TheVariants.{Code, Handlers}

-- where the part of a method begins
abbrev pub begin : Part → Header → ℕ
begin Code h = h.code_begin
begin Handlers h = h.handlers_begin

-- where the part of the first of some methods begins, or n without one
abbrev pub start : Part → List Header → ℕ → ℕ
start p [] n = n
start p (h ∷ hs) n = begin p h

-- each method begins no lower than the one before it, within n
abbrev pub Ordered : Part → List Header → ℕ → Type 0
Ordered p [] n = Unit {0}
Ordered p (h ∷ hs) n = (begin p h ≤ start p hs n) × Ordered p hs n

-- the methods share a list of n: in order, and from its beginning on
pub record IsTiled (p : Part) (headers : List Header) (n : ℕ) : Type 0 where
  pub in_order : Ordered p headers n
  pub from_zero : start p headers n ≡ 0
