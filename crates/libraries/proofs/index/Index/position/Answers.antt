use Rattle.std.proofs.Common.{w32, rules}
use Rattle.std.proofs.lemmas.Int.{to_z-of_z}
use Rattle.std.proofs.lemmas.List.Sorted.{answers_always}
use Rattle.libraries.proofs.Positions.{searched}
use Rattle.libraries.proofs.index.Index.position.Goals as goal

-- the closure gives a binding's key, and the slice is the index's bindings
pub returns : goal.returns
returns c =
    let facts = c.binary_search_by_key.ensures in
    let by_key = facts.position (λ b. b.key) (answers_always _ _ _ (λ f a r g called. search rules)) in
    rw (← c.self.view_is, ← c.deref.ensures.0) (searched c.deref.result.now (rw c.deref.ensures.0 c.self.invariant.sorted) c.args.key _ (to_z-of_z w32 c.args.key c.ranges.key) _ facts.bound by_key)
