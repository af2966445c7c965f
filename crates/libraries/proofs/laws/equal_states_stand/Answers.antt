use Rattle.libraries.proofs.Finds.{same_values_same_state}
use Rattle.libraries.proofs.laws.equal_states_stand.Goals as goal

pub returns : goal.returns
returns c = same_values_same_state
