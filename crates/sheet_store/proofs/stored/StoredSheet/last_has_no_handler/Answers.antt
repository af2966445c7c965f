use Rattle.std.proofs.Common.{rules}
use Rattle.sheet_store.proofs.Cuts.{last_none}
use Rattle.sheet_store.proofs.stored.StoredSheet.last_has_no_handler.Goals as goal

pub returns-in-Some : goal.returns-in-Some
returns-in-Some g c = rw (← c.self.view_is) (search (rules, last_none))
