use Rattle.libraries.proofs.Finds.{find_after_strike}
use Rattle.libraries.proofs.laws.strike_stands.Goals as goal

pub returns : goal.returns
returns c = find_after_strike
