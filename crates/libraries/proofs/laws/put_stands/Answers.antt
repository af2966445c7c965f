use Rattle.libraries.proofs.PageKeeps.{put_is_read}
use Rattle.libraries.proofs.laws.put_stands.Goals as goal

pub returns : goal.returns
returns c = put_is_read
