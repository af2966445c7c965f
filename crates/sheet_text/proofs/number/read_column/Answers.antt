use Rattle.sheet_laws.proofs.Held.{read_held}
use Rattle.sheet_text.proofs.number.read_column.Goals as goal

pub returns : goal.returns
returns c = read_held c.args.column.now c.unpadded.result.now c.read_number.result c.requires c.unpadded.ensures.first c.unpadded.ensures.parts c.read_number.ensures
