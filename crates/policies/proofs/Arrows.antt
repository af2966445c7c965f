-- Arrows in a list: a chart without any, and one more drawn.
use Rattle.std.proofs.Common.{◌≡◌, ℕ, zero, suc, ◌<◌, ◌≤◌, true, false, ◌&&◌, ltb, length, get_or, set, replicate, Some, None, Ok, Err, Option, Result, sym, refl, ap, ◌∙◌, subst, ⊎_elim, arith}
use Rattle.std.proofs.lemmas.List.{get_or-set_same, get_or-set_other}
use Rattle.std.proofs.lemmas.Bool.{cases_Bool, and_parts, ltb-true, lt-ltb, cond_both}
use Rattle.interface.specs.Answers.{kind_number, kind_numbered}
use Rattle.interface.specs.declared.answers.QuestionKind.{QuestionKind}
use Rattle.interface.specs.declared.answers.QuestionKind.TheVariants.{Before, After, Except}
use Rattle.policies.specs.Chart.{Arrows, slot, arrow_at, leads_to_box, Drawn, drawn_at, drawn_on, drawn}
use Rattle.policies.specs.ChartLaws.{Apart, OneArrowDrawn}
use Rattle.policies.specs.declared.fault.ArrowFault.{ArrowFault}
use Rattle.policies.specs.declared.fault.ArrowFault.TheVariants.{NoSuchBox, NoSuchMethod, AlreadyThere}

pub none_lead : (n k : ℕ) → leads_to_box (get_or (replicate n None) k None) ≡ true
none_lead zero k = refl
none_lead (suc n) zero = refl
none_lead (suc n) (suc k) = none_lead n k

-- a refusal is no success
refused : (fault : ArrowFault) (arrows new : Arrows) → ◌≡◌ {A = Drawn} (Err fault, arrows) (Ok tt, new) → ⊥
refused fault arrows new e =
    let answers : ◌≡◌ {A = Result (Unit {0}) ArrowFault} (Err fault) (Ok tt) = ap (λ (x : Drawn). x.0) e in
    let z : ◌≡◌ {A = ℕ} 0 1 = cc in omega arith

at_drawn : (arrows new : Arrows) (place to : ℕ) (old : Option ℕ) → drawn_at arrows place to old ≡ (Ok tt, new) → new ≡ set arrows place (Some to)
at_drawn arrows new place to None e = sym (ap (λ (x : Drawn). x.1) e)
at_drawn arrows new place to (Some old) e = absurd (refused AlreadyThere arrows new e)

on_drawn : (arrows new : Arrows) (from : ℕ) (kind : QuestionKind) (m to : ℕ) → drawn_on arrows from (Some kind) m to ≡ (Ok tt, new) → (m < 32) × (new ≡ set arrows (slot from kind m) (Some to))
on_drawn arrows new from kind m to =
    cond_both (ltb m 32) _ _ (λ s. s ≡ (Ok tt, new) → (m < 32) × (new ≡ set arrows (slot from kind m) (Some to)))
    (λ l e. (ltb-true m 32 l, at_drawn arrows new (slot from kind m) to _ e))
    (λ _ e. absurd (refused NoSuchMethod arrows new e))

kind_again : (kind : QuestionKind) → kind_numbered (kind_number kind) ≡ Some kind
kind_again Before = refl
kind_again After = refl
kind_again Except = refl

is_drawn : (arrows new : Arrows) (from : ℕ) (kind : QuestionKind) (m to : ℕ) → drawn arrows from (kind_number kind) m to ≡ (Ok tt, new) → (from < 16) × (m < 32) × (new ≡ set arrows (slot from kind m) (Some to))
is_drawn arrows new from kind m to =
    cond_both (ltb from 16 && ltb to 16) _ _ (λ s. s ≡ (Ok tt, new) → (from < 16) × (m < 32) × (new ≡ set arrows (slot from kind m) (Some to)))
    (λ b e. let known : drawn_on arrows from (Some kind) m to ≡ (Ok tt, new) = subst (λ (k : Option QuestionKind). drawn_on arrows from k m to ≡ (Ok tt, new)) (kind_again kind) e in
    let rest = on_drawn arrows new from kind m to known in
    (ltb-true from 16 (and_parts _ _ b).0, rest.0, rest.1))
    (λ _ e. absurd (refused NoSuchBox arrows new e))

-- the numbers of the kinds are 2 to 4
kind_range : (kind : QuestionKind) → (2 ≤ kind_number kind) × (kind_number kind ≤ 4)
kind_range Before = (omega arith, omega arith)
kind_range After = (omega arith, omega arith)
kind_range Except = (omega arith, omega arith)

slot_inside : (from : ℕ) (kind : QuestionKind) (m : ℕ) → from < 16 → m < 32 → slot from kind m < 1536
slot_inside from kind m l h = omega (arith, kind_range kind)

-- two arrows with one place are one
slot_same : (from from' : ℕ) (kind kind' : QuestionKind) (m m' : ℕ) → m < 32 → m' < 32 → slot from kind m ≡ slot from' kind' m' → (from ≡ from') × (kind_number kind ≡ kind_number kind') × (m ≡ m')
slot_same from from' kind kind' m m' l h e =
    let k = kind_range kind in let k' = kind_range kind' in
    (omega arith, omega arith, omega arith)

slots_apart : (from from' : ℕ) (kind kind' : QuestionKind) (m m' : ℕ) → m < 32 → m' < 32 → Apart from kind m from' kind' m' → slot from' kind' m' ≡ slot from kind m → ⊥
slots_apart from from' kind kind' m m' l h apart e =
    let s = slot_same from from' kind kind' m m' l h (sym e) in
    ⊎_elim (λ f. f s.0) (λ rest. ⊎_elim (λ f. f s.1) (λ f. f s.2) rest) apart

drawn_there : (arrows : Arrows) (from : ℕ) (kind : QuestionKind) (m to : ℕ) → length arrows ≡ 1536 → from < 16 → m < 32 → arrow_at (set arrows (slot from kind m) (Some to)) from kind m ≡ Some to
drawn_there arrows from kind m to long l h =
    let inside : slot from kind m < length arrows = omega (arith, slot_inside from kind m l h) in
    rw (lt-ltb m 32 h) (get_or-set_same arrows (slot from kind m) (Some to) None inside)

others_stay : (arrows : Arrows) (from : ℕ) (kind : QuestionKind) (m to : ℕ) → m < 32 → (from' : ℕ) (kind' : QuestionKind) (m' : ℕ) → Apart from kind m from' kind' m' → arrow_at (set arrows (slot from kind m) (Some to)) from' kind' m' ≡ arrow_at arrows from' kind' m'
others_stay arrows from kind m to l from' kind' m' apart =
    ⊎_elim
    (λ h. let t : ltb m' 32 ≡ true = h in
    rw t (get_or-set_other arrows (slot from kind m) (slot from' kind' m') (Some to) None (slots_apart from from' kind kind' m m' l (ltb-true m' 32 h) apart)))
    (λ h. let t : ltb m' 32 ≡ false = h in rw t)
    (cases_Bool (ltb m' 32))

pub one_arrow_drawn : OneArrowDrawn
one_arrow_drawn arrows new from kind m to long e =
    let d = is_drawn arrows new from kind m to e in (
      ap (λ (ws : Arrows). arrow_at ws from kind m) d.2 ∙ drawn_there arrows from kind m to long d.0 d.1,
      (λ from' kind' m' apart. ap (λ (ws : Arrows). arrow_at ws from' kind' m') d.2 ∙ others_stay arrows from kind m to d.1 from' kind' m' apart),
    )
