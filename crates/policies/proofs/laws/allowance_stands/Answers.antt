use Rattle.policies.proofs.Counts.{passes_as_often_as_given}
use Rattle.policies.proofs.laws.allowance_stands.Goals as goal

pub returns : goal.returns
returns c = passes_as_often_as_given
