use Rattle.sheet_laws.proofs.Numbering.{number_law}
use Rattle.sheet_laws.proofs.numbers_stand.Goals as goal

pub returns : goal.returns
returns c = number_law
