-- The first line of a text by the place of its line feed. Assumes nothing.
use Rattle.std.proofs.Common.{◌≡◌, ℕ, zero, suc, ◌+◌, ◌<◌, eqb, List, [], ◌∷◌, length, get_or, Ok, Err, Result, MatchResult, refl, ap, subst, ◌≤◌, ⊎_elim, arith, ◌≢◌}
use Rattle.std.proofs.lemmas.Bool.{eq-eqb, ne_eqb, cond-true, cond-false, cases_Bool}
use Rattle.std.specs.Result.{IsErrAnd}
use Rattle.sheet.specs.Maps.{and_then, raised}
use Rattle.sheet.specs.Reading.{TextSheet, line_length, lines, lines_read, line_taken, ahead}
use Rattle.sheet.specs.declared.faults.LineFault.{LineFault}
use Rattle.sheet.specs.declared.faults.SheetFault.{SheetFault}
use Rattle.sheet.specs.declared.faults.SheetFault.TheVariants.{Line as AtLine}

-- the first line feed ends the line
pub feed_at : (t : List ℕ) (i : ℕ) → i < length t → get_or t i 0 ≡ 10 → ((k : ℕ) → k < i → get_or t k 0 ≢ 10) → i + 1 ≡ line_length t
feed_at [] i h e none = absurd (omega arith)
feed_at (b ∷ t) zero h e none = let c = cond-true (eqb b 10) 1 (suc (line_length t)) (eq-eqb b 10 e) in omega arith
feed_at (b ∷ t) (suc i) h e none =
    let c = cond-false (eqb b 10) 1 (suc (line_length t)) (ne_eqb b 10 (none 0 (omega arith))) in
    let r = feed_at t i (omega arith) e (λ k l. none (suc k) (omega arith)) in
    omega arith

-- with no line feed, all is one line
pub no_feed : (t : List ℕ) → ((k : ℕ) → k < length t → get_or t k 0 ≢ 10) → length t ≡ line_length t
no_feed [] none = refl
no_feed (b ∷ t) none =
    let c = cond-false (eqb b 10) 1 (suc (line_length t)) (ne_eqb b 10 (none 0 (omega arith))) in
    let r = no_feed t (λ k l. none (suc k) (omega arith)) in
    omega arith

-- no bytes have no line
pub no_lines : (t : List ℕ) → length t ≡ 0 → lines t ≡ []
unfolding lines
no_lines [] e = refl
no_lines (b ∷ t) e = absurd (omega arith)

-- a text has no more lines than bytes
pub few_lines : (t : List ℕ) → length (lines t) ≤ length t
unfolding lines
few_lines [] = omega arith
few_lines (b ∷ t) =
    let r = few_lines t in
    ⊎_elim
    (λ e. let c = ap length (cond-true (eqb b 10) ((b ∷ []) ∷ lines t) (ahead b (lines t)) e) in omega arith)
    (λ e. let c = ap length (cond-false (eqb b 10) ((b ∷ []) ∷ lines t) (ahead b (lines t)) e) in let a = longer (lines t) in omega arith)
    (cases_Bool (eqb b 10))
  where
    longer : (ls : List (List ℕ)) → length (ahead b ls) ≤ length ls + 1
    longer [] = omega arith
    longer (l ∷ ls) = omega arith

-- what is read of a line and those behind it, and of none
pub read_on : (k : ℕ) (s next : TextSheet) (line : List ℕ) (more : List (List ℕ)) → line_taken s line ≡ Ok next → lines_read k s (line ∷ more) ≡ lines_read (suc k) next more
unfolding lines_read
read_on k s next line more e = ap (λ r. and_then (raised (AtLine k) r) (λ n. lines_read (suc k) n more)) e

pub read_stops : (k : ℕ) (s : TextSheet) (f : LineFault) (line : List ℕ) (more : List (List ℕ)) → line_taken s line ≡ Err f → lines_read k s (line ∷ more) ≡ Err (AtLine k f)
unfolding lines_read
read_stops k s f line more e = ap (λ r. and_then (raised (AtLine k) r) (λ n. lines_read (suc k) n more)) e

pub read_all : (k : ℕ) (s : TextSheet) → lines_read k s [] ≡ Ok s
unfolding lines_read
read_all k s = refl

-- the fault of a line, where its result with the line's number is a fault
pub located : (post : LineFault → SheetFault → Type 0) (taken : Result (Unit {0}) LineFault) (r : Result (Unit {0}) SheetFault) (f : SheetFault) → MatchResult taken (λ u. r ≡ Ok u) (λ e. IsErrAnd r (post e)) → r ≡ Err f → (e : LineFault) × (taken ≡ Err e) × post e f
located post (Ok u) r f c e = absurd (let z : ◌≡◌ {A = ℕ} 0 1 = cc in omega arith)
located post (Err g) (Ok u) f c e = absurd c
located post (Err g) (Err h) f c e = let same : h ≡ f = cc in (g, refl, subst (post g) same c)
