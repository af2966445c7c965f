use Rattle.std.proofs.Common.{◌≡◌, ◌+◌, ◌++◌, take, vec_items, vec_len, vec_capacity}
use Rattle.sheet_store.proofs.stored.fill_reserved.Given as goal

abbrev pub invariant-loop-x : goal.invariant-loop-x
invariant-loop-x g l = (vec_capacity l.list ≡ vec_capacity l.initial.list) × (vec_len l.list ≡ vec_len l.initial.list + l.x-index) × (vec_items l.list ≡ vec_items l.initial.list ++ take l.x-index l.block)
