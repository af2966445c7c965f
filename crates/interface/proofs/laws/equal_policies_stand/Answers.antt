use Rattle.interface.specs.Equality.{policy_answers, policy_after}
use Rattle.interface.proofs.Equals.{stay_equal}
use Rattle.interface.proofs.laws.equal_policies_stand.Goals as goal

pub returns : goal.returns
returns g c = stay_equal policy_answers policy_after
