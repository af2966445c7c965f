use Rattle.std.proofs.Common.{rules}
use Rattle.sheet_laws.proofs.TextLaws.{one_text, left_in_range}
use Rattle.sheet_text.proofs.read_sheet.ReadSheet.read.Goals as goal

pub invariant_of-self : goal.invariant_of-self
invariant_of-self c = left_in_range c.args.text.now c.fill.result c.fill.new.sheet (search rules)

pub returns-clause-one_text : goal.returns-clause-one_text
returns-clause-one_text c = one_text c.args.text.now
