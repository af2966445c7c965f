use Rattle.std.proofs.Common.{rules}
use Rattle.std.proofs.lemmas.Option.{slice_get-get_or, slice_get_past}
use Rattle.sheet_store.proofs.Cuts.{shape_at}
use Rattle.sheet_store.proofs.stored.StoredSheet.shape.Goals as goal

pub returns : goal.returns
returns g c = rw (← c.self.view_is) (search (rules, shape_at, slice_get-get_or, slice_get_past))
