use Rattle.libraries.proofs.Finds.{find_after_enter}
use Rattle.libraries.proofs.laws.enter_stands.Goals as goal

pub returns : goal.returns
returns c = find_after_enter
