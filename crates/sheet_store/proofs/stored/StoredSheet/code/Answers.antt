use Rattle.std.proofs.Common.{rules}
use Rattle.sheet_store.proofs.Cuts.{cut_at}
use Rattle.sheet_store.proofs.stored.StoredSheet.code.Goals as goal

pub returns : goal.returns
returns g c = rw (← c.self.view_is) (search (rules, cut_at))
