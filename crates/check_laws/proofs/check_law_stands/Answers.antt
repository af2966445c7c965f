use Rattle.check_laws.proofs.Method.{check_law}
use Rattle.check_laws.proofs.Sheet.{sheet_law}
use Rattle.check_laws.proofs.check_law_stands.Goals as goal

pub returns : goal.returns
returns c = record { methods = check_law; sheets = sheet_law }
