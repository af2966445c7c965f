use Rattle.std.proofs.Common.{rules}
use Rattle.sheet_store.proofs.Cuts.{cut_length, method_added}
use Rattle.sheet_store.proofs.stored.StoredSheet.add_method.Goals as goal

pub returns : goal.returns
returns g c = rw (← c.self.view_is) (search (rules, cut_length, method_added))
