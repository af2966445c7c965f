use Rattle.libraries.proofs.Finds.{stays_canonical}
use Rattle.libraries.proofs.laws.canonical_states_stand.Goals as goal

pub returns : goal.returns
returns c = stays_canonical
