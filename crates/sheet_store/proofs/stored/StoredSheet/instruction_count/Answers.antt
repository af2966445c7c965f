use Rattle.std.proofs.Common.{rules}
use Rattle.sheet_store.proofs.Cuts.{instructions_are}
use Rattle.sheet_store.proofs.stored.StoredSheet.instruction_count.Goals as goal

pub returns : goal.returns
returns g c = rw (← c.self.view_is) (search (rules, instructions_are))
