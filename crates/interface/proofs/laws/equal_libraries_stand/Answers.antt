use Rattle.interface.specs.Equality.{library_answers, library_after}
use Rattle.interface.proofs.Equals.{stay_equal}
use Rattle.interface.proofs.laws.equal_libraries_stand.Goals as goal

pub returns : goal.returns
returns g c = stay_equal library_answers library_after
