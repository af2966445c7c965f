use Rattle.interface.proofs.Seven.{keeps_up_to_seven}
use Rattle.interface.proofs.laws.seven_values_stand.Goals as goal

pub returns : goal.returns
returns c = keeps_up_to_seven
