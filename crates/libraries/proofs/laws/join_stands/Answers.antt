use Rattle.libraries.proofs.PageKeeps.{join_keeps_the_rest}
use Rattle.libraries.proofs.laws.join_stands.Goals as goal

pub returns : goal.returns
returns c = join_keeps_the_rest
