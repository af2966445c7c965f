use Rattle.std.proofs.Common.{[], ◌∷◌, take, vec_items, arith}
use Rattle.std.proofs.lemmas.List.{append_assoc, take_more, take_all}
use Rattle.sheet_store.proofs.stored.fill_reserved.Goals as goal

pub loop-x-preserved : goal.loop-x-preserved
loop-x-preserved g c =
    let m = take_more c.args.block.now c.loop-x.x-index c.x-item.result (omega arith) in
    let a = append_assoc (vec_items c.args.list.now) (take c.loop-x.x-index c.args.block.now) (c.x-item.result ∷ []) in
    let i = c.loop-x.invariant in
    let p = c.push_reserved.ensures in
    (omega arith, omega arith, cc)
