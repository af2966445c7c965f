-- The law of the allowance.
use Rattle.std.proofs.Common.{◌≡◌, ℕ, ◌+◌, ◌-◌, ◌<◌, ◌≤◌, min, false, ◌&&◌, eqb, ltb, List, [], ◌∷◌, length, get_or, set, sym, subst, ⊎_elim, arith}
use Rattle.std.proofs.lemmas.List.{length-set, get_or-set_same, get_or-set_other, get_or_past}
use Rattle.std.proofs.lemmas.Bool.{cases_Bool, and_parts, and_cases, ltb-true, ltb-false, eqb-true, eqb-false, cond_both}
use Rattle.interface.specs.Equality.{Question}
use Rattle.interface.specs.declared.answers.QuestionKind.TheVariants.{Before, After, Except}
use Rattle.interface.specs.declared.answers.PolicyAnswer.{PolicyAnswer}
use Rattle.policies.specs.Allowance.{counted}
use Rattle.policies.specs.AllowanceLaws.{before_of, if_passed, asked, passed, PassesAsOftenAsGiven}

-- what the rest of the questions owe after one before of n, b of which are of m
abbrev Owed : ℕ → List ℕ → ℕ → List Question → PolicyAnswer × List ℕ → Type 0
Owed m left b questions s = if_passed s.0 b + passed m s.1 questions ≡ min (get_or left m 0) (b + asked m questions)

nothing_left : (left : List ℕ) (m : ℕ) → length left ≡ 32 → (ltb m 32 && ltb 0 (get_or left m 0)) ≡ false → get_or left m 0 ≡ 0
nothing_left left m long h =
    ⊎_elim
    (λ f. let past : 32 ≤ m = ltb-false m 32 f in get_or_past left m 0 (omega arith))
    (λ f. let low : get_or left m 0 ≤ 0 = ltb-false 0 (get_or left m 0) f in omega arith)
    (and_cases _ _ h)

-- the law for some questions, whatever is left
abbrev Law : ℕ → List Question → Type 0
Law m questions = (left : List ℕ) → length left ≡ 32 → passed m left questions ≡ min (get_or left m 0) (asked m questions)

own_before : (m : ℕ) (left : List ℕ) (questions : List Question) → length left ≡ 32 → Law m questions → Owed m left 1 questions (counted left m)
own_before m left questions long law =
    cond_both (ltb m 32 && ltb 0 (get_or left m 0)) _ _ (Owed m left 1 questions)
    (λ h. let parts = and_parts (ltb m 32) (ltb 0 (get_or left m 0)) h in
    let inside : m < 32 = ltb-true m 32 parts.0 in
    let more : 0 < get_or left m 0 = ltb-true 0 (get_or left m 0) parts.1 in
    let rest = law (set left m (get_or left m 0 - 1)) (simp length-set long) in
    let one_less : get_or (set left m (get_or left m 0 - 1)) m 0 ≡ get_or left m 0 - 1 = get_or-set_same left m (get_or left m 0 - 1) 0 (omega arith) in
    omega arith)
    (λ h. let none = nothing_left left m long h in let rest = law left long in omega arith)

other_before : (m n : ℕ) (left : List ℕ) (questions : List Question) → length left ≡ 32 → Law m questions → (m ≡ n → ⊥) → Owed m left 0 questions (counted left n)
other_before m n left questions long law ne =
    cond_both (ltb n 32 && ltb 0 (get_or left n 0)) _ _ (Owed m left 0 questions)
    (λ h. let rest = law (set left n (get_or left n 0 - 1)) (simp length-set long) in
    let kept : get_or (set left n (get_or left n 0 - 1)) m 0 ≡ get_or left m 0 = get_or-set_other left n m (get_or left n 0 - 1) 0 ne in
    omega arith)
    (λ h. let rest = law left long in omega arith)

-- one before, then the rest
before_then : (m n : ℕ) (left : List ℕ) (questions : List Question) → length left ≡ 32 → Law m questions → Owed m left (before_of m Before n) questions (counted left n)
before_then m n left questions long law =
    ⊎_elim
    (λ own. let is : n ≡ m = eqb-true n m own in
    let one : before_of m Before n ≡ 1 = rw own in
    subst (λ (b : ℕ). Owed m left b questions (counted left n)) (sym one)
    (subst (λ (k : ℕ). Owed m left 1 questions (counted left k)) (sym is) (own_before m left questions long law)))
    (λ other. let none : before_of m Before n ≡ 0 = rw other in
    subst (λ (b : ℕ). Owed m left b questions (counted left n)) (sym none)
    (other_before m n left questions long law (λ e. eqb-false n m other (sym e))))
    (cases_Bool (eqb n m))

pub passes_as_often_as_given : PassesAsOftenAsGiven
passes_as_often_as_given left m [] long = omega arith
passes_as_often_as_given left m ((Before, (n, vs)) ∷ questions) long =
    before_then m n left questions long (λ next l. passes_as_often_as_given next m questions l)
passes_as_often_as_given left m ((After, (n, vs)) ∷ questions) long =
    let rest = passes_as_often_as_given left m questions long in omega arith
passes_as_often_as_given left m ((Except, (n, vs)) ∷ questions) long =
    let rest = passes_as_often_as_given left m questions long in omega arith
