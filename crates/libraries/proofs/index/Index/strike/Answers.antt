use Rattle.std.proofs.Common.{w32}
use Rattle.std.proofs.lemmas.Int.{to_z-of_z}
use Rattle.libraries.proofs.Positions.{canonical_removed}
use Rattle.libraries.proofs.index.Index.strike.Goals as goal

pub invariant_of-self : goal.invariant_of-self
invariant_of-self c =
    rw (c.remove.ensures.items, c.self.view_is)
    (canonical_removed c.args.self.now (rw c.self.view_is at c.self.invariant) c.args.key c.in-Ok.place (rw (to_z-of_z w32 c.args.key c.ranges.key) at c.in-Ok.ensures))
