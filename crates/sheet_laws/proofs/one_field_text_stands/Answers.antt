use Rattle.sheet_laws.proofs.Held.{field_law}
use Rattle.sheet_laws.proofs.one_field_text_stands.Goals as goal

pub returns : goal.returns
returns c = field_law
