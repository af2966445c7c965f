-- How a report begins. Assumes nothing.
use Rattle.std.specs.Prelude.{◌≡◌, ℕ, List, [], ◌∷◌, ◌++◌, Ok, Err, codes, decimal, Result, MatchResult}
use Rattle.sheet.specs.Columns.{column}
use Rattle.sheet.specs.Reading.{TextSheet}
use Rattle.sheet.specs.Refusals.{sheet_refusal}
use Rattle.sheet.specs.View.{empty_sheet}
use Rattle.refusal.specs.declared.Refusal.{Refusal}
use Rattle.sheet.specs.declared.faults.SheetFault.{SheetFault}
use Rattle.check_rules.specs.Check.{CheckedForm, checked}
use Rattle.check_rules.specs.CheckRefusals.{check_refusal}
use Rattle.check_rules.specs.declared.faults.CheckFault.{CheckFault}

-- a refusal as programs read it: R, its number and its places in six columns each, and a line feed
abbrev pub refusal_line : Refusal → List ℕ
refusal_line r = 82 ∷ (column 6 (decimal r.number) ++ (column 6 (decimal r.first) ++ (column 6 (decimal r.second) ++ (10 ∷ []))))

-- what the report on a sheet begins with, by what its check answers
abbrev pub check_opening : Result CheckedForm CheckFault → List ℕ
check_opening (Ok s) = codes "The sheet passes"
check_opening (Err e) = refusal_line (check_refusal e)

-- what the report on a text begins with, by what reading it answers
abbrev pub opening : Result TextSheet SheetFault → List ℕ
opening (Ok s) = check_opening (checked s)
opening (Err e) = refusal_line (sheet_refusal e)

-- what the check of a sheet leaves in the checked one
abbrev pub CheckLeft : TextSheet → CheckedForm → Type 0
CheckLeft s left = MatchResult (checked s) (λ c. left ≡ c) (λ _. left ≡ empty_sheet)

abbrev pub Begins : List ℕ → List ℕ → Type 0
Begins front bytes = (rest : List ℕ) × (bytes ≡ front ++ rest)
