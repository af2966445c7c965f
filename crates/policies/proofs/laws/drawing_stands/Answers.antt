use Rattle.policies.proofs.Arrows.{one_arrow_drawn}
use Rattle.policies.proofs.laws.drawing_stands.Goals as goal

pub returns : goal.returns
returns c = one_arrow_drawn
