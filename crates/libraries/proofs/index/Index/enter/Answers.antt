use Rattle.std.proofs.Common.{◌≡◌, ◌<◌, length, to_z, of_z, w32, rules}
use Rattle.std.specs.List.{insert}
use Rattle.std.proofs.lemmas.Int.{to_z-of_z}
use Rattle.libraries.specs.Index.{bound}
use Rattle.libraries.proofs.Positions.{refill-set, canonical_set, canonical_inserted, enters_there}
use Rattle.libraries.proofs.index.Index.enter.Goals as goal

pub invariant_of-self : goal.invariant_of-self
invariant_of-self c =
    let key = to_z-of_z w32 c.args.key c.ranges.key in
    let value = to_z-of_z w32 c.args.value c.ranges.value in
    rw (c.deref_mut.ensures.value, refill-set c.self.inside.bindings.items c.in-Ok.place _, key, value, c.self.view_is)
    (canonical_set c.args.self.now (rw c.self.view_is at c.self.invariant) c.args.key c.in-Ok.place (rw key at c.in-Ok.ensures) c.args.value)

pub invariant_of-self-else-is_err : goal.invariant_of-self-else-is_err
invariant_of-self-else-is_err c =
    let key = to_z-of_z w32 c.args.key c.ranges.key in
    let value = to_z-of_z w32 c.args.value c.ranges.value in
    let items : c.try_insert.new.self.items ≡ insert c.self.inside.bindings.items c.in-Err.place (bound (to_z w32 (of_z w32 c.args.key)) (to_z w32 (of_z w32 c.args.value))) = search rules in
    let room : length c.self.inside.bindings.items < 32 = search rules in
    rw (items, key, value, c.self.view_is)
    (canonical_inserted c.args.self.now (rw c.self.view_is at c.self.invariant) c.args.key c.in-Err.place (rw key at c.in-Err.ensures) c.args.value (rw c.self.view_is at room))

pub returns-in-Ok : goal.returns-in-Ok
returns-in-Ok c =
    let key = to_z-of_z w32 c.args.key c.ranges.key in
    let value = to_z-of_z w32 c.args.value c.ranges.value in
    rw (c.deref_mut.ensures.value, refill-set c.self.inside.bindings.items c.in-Ok.place _, key, value, c.self.view_is)
    (enters_there c.args.self.now c.args.key c.args.value c.in-Ok.place (rw key at c.in-Ok.ensures))
