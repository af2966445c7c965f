-- Returns and raises apart, and numbers that are the same.
use Rattle.std.proofs.Common.{◌≡◌, ℕ, true, ℤ, pos, ap, arith}
use Rattle.interface.specs.declared.answers.LibraryAnswer.TheVariants.{Return, Raise}
use Rattle.std.proofs.lemmas.Int.{ints}
use Rattle.libraries.specs.Arguments.{Step, raise, done, same}

pub no_return : {S : Type 0} (code : ℕ) (s t : S) → raise code s ≡ done t → ⊥
no_return {S} code s t e =
    let answers : Raise (pos code) ≡ Return (pos 0) = ap (λ (x : Step S). x.0) e in
    let z : ◌≡◌ {A = ℕ} 0 1 = cc in omega arith

pub same_is : (a b : ℤ) → same a b ≡ true → a ≡ b
same_is a b e = grind (arith, ints)
