use Rattle.std.proofs.Common.{sym, ◌∙◌}
use Rattle.check_laws.proofs.Sheet.{sheet_law}
use Rattle.checking.proofs.Sheets.{left_checked}
use Rattle.checking.proofs.checked.CheckedSheet.check.Goals as goal

pub invariant_of-self-else-is_err : goal.invariant_of-self-else-is_err
invariant_of-self-else-is_err c = left_checked c.contents.result.now c.check_into-checked.new.out c.check_into-checked.result c.check_into-checked.ensures.ok (sym c.is_err.ensures.value ∙ c.if-is_err.false)

pub returns-then-is_err-clause-law : goal.returns-then-is_err-clause-law
returns-then-is_err-clause-law c = sheet_law

pub returns-else-is_err-clause-law : goal.returns-else-is_err-clause-law
returns-else-is_err-clause-law c = sheet_law
