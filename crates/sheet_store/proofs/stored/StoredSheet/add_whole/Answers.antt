use Rattle.std.proofs.Common.{rules}
use Rattle.sheet_store.proofs.Parts.{tiled_added}
use Rattle.sheet_store.proofs.Cuts.{cut_length, instructions_are, handlers_are, whole_added}
use Rattle.sheet_store.proofs.stored.StoredSheet.add_whole.Goals as goal

pub returns-then-code-code_begin : goal.returns-then-code-code_begin
returns-then-code-code_begin g c = rw (← c.self.view_is) (search (rules, instructions_are, handlers_are))

pub returns-in_err-push_within-clause-full : goal.returns-in_err-push_within-clause-full
returns-in_err-push_within-clause-full g c = rw (← c.self.view_is) (search (rules, cut_length))

pub invariant_of-self-2 : goal.invariant_of-self-2
invariant_of-self-2 g c = search (rules, tiled_added)

pub returns : goal.returns
returns g c = rw (← c.self.view_is) (search (rules, whole_added))
