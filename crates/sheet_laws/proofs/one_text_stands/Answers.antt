use Rattle.sheet_laws.proofs.TextLaws.{one_text}
use Rattle.sheet_laws.proofs.one_text_stands.Goals as goal

pub returns : goal.returns
returns c = one_text
