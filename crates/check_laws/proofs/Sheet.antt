-- The law of the check over a whole sheet. Assumes nothing.
use Rattle.std.proofs.Common.{◌≡◌, ℕ, suc, ◌<◌, true, List, [], ◌∷◌, map, length, All, is_ok, Ok, sym, refl, ap, ◌∙◌, subst, arith}
use Rattle.std.proofs.lemmas.List.Elements.{All-nil, All-head, All-tail, All-cons}
use Rattle.std.proofs.lemmas.List.{length-map}
use Rattle.sheet.specs.Bounds.{every}
use Rattle.sheet.specs.Maps.{and_then, raised}
use Rattle.sheet.specs.declared.records.Shape.{Shape}
use Rattle.sheet.specs.declared.records.Signature.{Signature}
use Rattle.sheet_laws.proofs.Numerals.{and_then_ok, raised_ok}
use Rattle.std.proofs.lemmas.Bool.{and_from}
use Rattle.check_rules.specs.Check.{ReadMethod, CheckedMethod, CheckedForm, method_checked, methods_checked, method_encoded, shapes_of, checked, sheet_encoded}
use Rattle.check_rules.specs.CheckLaws.{Passed, AllPassed, SheetLaw}
use Rattle.check_rules.specs.declared.faults.CheckFault.TheVariants.{Method as InMethod}
use Rattle.check_laws.proofs.Method.{check_law}

-- METHODS ONE BEHIND THE OTHER

shapes_encoded : (cs : List CheckedMethod) → shapes_of (map method_encoded cs) ≡ shapes_of cs
shapes_encoded [] = refl
shapes_encoded (c ∷ cs) = ap (λ xs. c.shape ∷ xs) (shapes_encoded cs)

module _ (library : List Signature) (shapes : List Shape) where
  pub methods_mean : (k : ℕ) (rs : List ReadMethod) (cs : List CheckedMethod) → methods_checked library shapes k rs ≡ Ok cs → (map method_encoded cs ≡ rs) × All (Passed library shapes) cs
  methods_mean k [] cs e = let same : [] ≡ cs = cc in subst (λ xs. (map method_encoded xs ≡ []) × All (Passed library shapes) xs) same (refl, All-nil (Passed library shapes))
  methods_mean k (r ∷ rs) cs e =
      let a = and_then_ok (raised (InMethod k) (method_checked library shapes r)) (λ c. and_then (methods_checked library shapes (suc k) rs) (λ xs. Ok (c ∷ xs))) cs e in
      let b = raised_ok (InMethod k) (method_checked library shapes r) a.0 a.1 in
      let d = and_then_ok (methods_checked library shapes (suc k) rs) (λ xs. Ok (a.0 ∷ xs)) cs a.2 in
      let m = (check_law library shapes a.0).means r b in
      let n = methods_mean (suc k) rs d.0 d.1 in
      let last = d.2 in
      let same : (a.0 ∷ d.0) ≡ cs = cc in
      subst (λ xs. (map method_encoded xs ≡ r ∷ rs) × All (Passed library shapes) xs) same (ap (λ x. x ∷ map method_encoded d.0) m.0 ∙ ap (λ xs. r ∷ xs) n.0, All-cons (Passed library shapes) a.0 d.0 m.1 n.1)

  methods_pass : (k : ℕ) (cs : List CheckedMethod) → All (Passed library shapes) cs → methods_checked library shapes k (map method_encoded cs) ≡ Ok cs
  methods_pass k [] a = refl
  methods_pass k (c ∷ cs) a = rw ((check_law library shapes c).passes (All-head (Passed library shapes) c cs a), methods_pass (suc k) cs (All-tail (Passed library shapes) c cs a))

  -- each of them is checked by itself, as a text has it
  pub each_checked : (cs : List CheckedMethod) → All (Passed library shapes) cs → every (λ c. is_ok (method_checked library shapes (method_encoded c))) cs ≡ true
  each_checked [] a = refl
  each_checked (c ∷ cs) a = and_from _ _ (ap is_ok ((check_law library shapes c).passes (All-head (Passed library shapes) c cs a))) (each_checked cs (All-tail (Passed library shapes) c cs a))

-- WHOLE SHEETS

sheet_means : (library : List Signature) (rs : List ReadMethod) (s : CheckedForm) → checked (record { library = library; methods = rs }) ≡ Ok s → (sheet_encoded s ≡ record { library = library; methods = rs }) × (0 < length s.methods) × AllPassed s
sheet_means library [] s e = cc
sheet_means library (r ∷ rs) s e =
    let a = and_then_ok (methods_checked library (shapes_of (r ∷ rs)) 0 (r ∷ rs)) (λ cs. Ok (record { library = library; methods = cs })) s e in
    let cs = a.0 in
    let n = methods_mean library (shapes_of (r ∷ rs)) 0 (r ∷ rs) cs a.1 in
    let last = a.2 in
    let made : CheckedForm = record { library = library; methods = cs } in
    let same : made ≡ s = cc in
    let long = sym (length-map cs method_encoded) ∙ ap length n.0 in
    let some : 0 < length cs = omega arith in
    let shapes = ap shapes_of (sym n.0) ∙ shapes_encoded cs in
    subst (λ x. (sheet_encoded x ≡ record { library = library; methods = r ∷ rs }) × (0 < length x.methods) × AllPassed x) same (ap (λ ms. record { library = library; methods = ms }) n.0, some, subst (λ x. All (Passed library x) cs) shapes n.1)

sheet_passes : (library : List Signature) (cs : List CheckedMethod) → 0 < length cs → All (Passed library (shapes_of cs)) cs → checked (record { library = library; methods = map method_encoded cs }) ≡ Ok (record { library = library; methods = cs })
sheet_passes library [] some a = absurd (omega arith)
sheet_passes library (c ∷ cs) some a = ap (λ x. and_then (methods_checked library x 0 (map method_encoded (c ∷ cs))) (λ xs. Ok (record { library = library; methods = xs }))) (shapes_encoded (c ∷ cs)) ∙ ap (λ r. and_then r (λ xs. Ok (record { library = library; methods = xs }))) (methods_pass library (shapes_of (c ∷ cs)) 0 (c ∷ cs) a)

pub sheet_law : (s : CheckedForm) → SheetLaw s
sheet_law s = record { means = λ r e. sheet_means r.library r.methods s e; passes = sheet_passes s.library s.methods }
