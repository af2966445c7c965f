use Rattle.std.proofs.Common.{arith}
use Rattle.std.proofs.lemmas.Grind.{common_steps}
use Rattle.sheet_store.proofs.Parts.{bounded}
use Rattle.sheet_store.proofs.stored.bounds.Goals as goal

pub returns-in-Some-len1-clause-in_order : goal.returns-in-Some-len1-clause-in_order
returns-in-Some-len1-clause-in_order c = let w = bounded c.args.part c.args.headers.now c.args.method c.args.n c.requires in grind (arith, common_steps)

pub returns-in-Some-len2-up-clause-in_order : goal.returns-in-Some-len2-up-clause-in_order
returns-in-Some-len2-up-clause-in_order c = let w = bounded c.args.part c.args.headers.now c.args.method c.args.n c.requires in grind (arith, common_steps)

pub returns-in-Some-len2-up-clause-within : goal.returns-in-Some-len2-up-clause-within
returns-in-Some-len2-up-clause-within c = let w = bounded c.args.part c.args.headers.now c.args.method c.args.n c.requires in grind (arith, common_steps)
