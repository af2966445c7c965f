use Rattle.std.proofs.Common.{rules}
use Rattle.sheet_store.proofs.Cuts.{cut_length, instructions_are, code_pushed}
use Rattle.sheet_store.proofs.stored.StoredSheet.add_instruction.Goals as goal

pub returns : goal.returns
returns g c = rw (← c.self.view_is) (search (rules, cut_length, instructions_are, code_pushed))
