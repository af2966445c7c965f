-- Ops and kinds and their numbers. Assumes nothing.
use Rattle.std.proofs.Common.{◌≡◌, ℕ, zero, suc, ◌+◌, ◌<◌, Bool, true, ◌&&◌, eqb, ◌⊎◌, List, [], ◌∷◌, Some, None, refl, ap, inl, arith}
use Rattle.std.specs.List.{slice_get}
use Rattle.std.proofs.lemmas.Option.{slice_get-get_or as slice_get_or}
use Rattle.std.proofs.lemmas.Bool.{and_parts, eqb-true}
use Rattle.sheet.specs.Laws.{NumberLaw}
use Rattle.sheet.specs.Numbers.{kind_number, kind_numbered}
use Rattle.sheet.specs.Ops.{ops, op_number, op_numbered}
use Rattle.sheet.specs.declared.op.Op.{Op}
use Rattle.sheet.specs.declared.op.Op.TheVariants.{LoadConstant, LoadArgument, LoadLocal, StoreLocal, Pop, Add, Subtract, CompareEqual, CompareLess, Branch, BranchTrue, CallOwn, CallLibrary, Return, Throw, Before, After, Except}
use Rattle.sheet.specs.declared.records.Kind.{Kind}
use Rattle.sheet.specs.declared.records.Kind.TheVariants.{Every, SecurityOnly}

pub op_found : (op : Op) → op_numbered (op_number op) ≡ Some op
op_found LoadConstant = refl
op_found LoadArgument = refl
op_found LoadLocal = refl
op_found StoreLocal = refl
op_found Pop = refl
op_found Add = refl
op_found Subtract = refl
op_found CompareEqual = refl
op_found CompareLess = refl
op_found Branch = refl
op_found BranchTrue = refl
op_found CallOwn = refl
op_found CallLibrary = refl
op_found Return = refl
op_found Throw = refl
op_found Before = refl
op_found After = refl
op_found Except = refl

-- the ops of a list have the numbers from k on
abbrev pub numbered : ℕ → List Op → Bool
numbered k [] = true
numbered k (o ∷ os) = eqb (op_number o) k && numbered (suc k) os

pub numbered_at : (k : ℕ) (os : List Op) (i : ℕ) (op : Op) → numbered k os ≡ true → slice_get os i ≡ Some op → op_number op ≡ k + i
numbered_at k [] i op e h = cc
numbered_at k (o ∷ os) zero op e h =
    let p = and_parts (eqb (op_number o) k) (numbered (suc k) os) e in
    let q = eqb-true (op_number o) k p.0 in
    let same : o ≡ op = cc in
    omega (arith, ap op_number same)
numbered_at k (o ∷ os) (suc i) op e h = grind (arith, numbered_at (suc k) os i op)

pub op_numbered_lem : (n : ℕ) (op : Op) → op_numbered n ≡ Some op → op_number op ≡ n
op_numbered_lem zero op e = cc
op_numbered_lem (suc n) op e = let r = numbered_at 1 ops n op refl e in omega arith

op_none : (n : ℕ) → op_numbered n ≡ None → (n ≡ 0) ⊎ (18 < n)
op_none zero e = inl refl
op_none (suc n) e = grind (arith, slice_get_or ops n LoadConstant)

pub kind_found : (k : Kind) → kind_numbered (kind_number k) ≡ Some k
kind_found Every = refl
kind_found SecurityOnly = refl

pub kind_numbered_lem : (n : ℕ) (k : Kind) → kind_numbered n ≡ Some k → kind_number k ≡ n
kind_numbered_lem n k e = grind arith

pub number_law : NumberLaw
number_law = record { op_found = op_found; op_numbered_lem = op_numbered_lem; op_none = op_none; kind_found = kind_found; kind_numbered_lem = kind_numbered_lem }
