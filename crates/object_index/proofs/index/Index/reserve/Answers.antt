use Rattle.std.proofs.Common.{◌≡◌, List, length, arith, rules, Some, vec_len}
use Rattle.std.specs.Prelude.{slice_get}
use Rattle.std.proofs.lemmas.Option.{slice_get_read}
use Rattle.object_index.specs.declared.places.Placed.{Placed}
use Rattle.object_index.proofs.ChangedIndex.{limits_set, reserved_here, reserved_set, set_by}
use Rattle.object_index.proofs.index.Index.reserve.Goals as goal

pub invariant_of-self-2 : goal.invariant_of-self-2
invariant_of-self-2 c =
    limits_set c.self.inside.partitions.items c.args.part c.reserve.new.self c.self.invariant c.reserve.ensures.limits

pub returns-clause-same : goal.returns-clause-same
returns-clause-same c =
    let parts = c.self.inside.partitions in
    let part = c.index_mut-partition.result.now in
    let len : vec_len parts ≡ length parts.items = search rules in
    let there = rw (← c.self.view_is) at c.requires in
    let here : slice_get parts.items c.args.part ≡ Some part =
    slice_get_read parts.items (vec_len parts) c.args.part part len
    (omega (arith, there, len)) c.index_mut-partition.ensures.value in
    rw (← c.self.view_is)
    (set_by parts.items c.args.part part c.reserve.new.self here (λ (l : List Placed). l) c.in_ok-reserve.ensures.same)

pub returns-clause-grows : goal.returns-clause-grows
returns-clause-grows c =
    let parts = c.self.inside.partitions in
    let part = c.index_mut-partition.result.now in
    let len : vec_len parts ≡ length parts.items = search rules in
    let there = rw (← c.self.view_is) at c.requires in
    let here : slice_get parts.items c.args.part ≡ Some part =
    slice_get_read parts.items (vec_len parts) c.args.part part len
    (omega (arith, there, len)) c.index_mut-partition.ensures.value in
    rw (← c.self.view_is) (omega (
      arith,
      c.in_ok-reserve.ensures.grows,
      reserved_here parts.items c.args.part part c.reserve.new.self here,
      reserved_set parts.items c.args.part part c.reserve.new.self here,
    ))

pub returns-clause-ok : goal.returns-clause-ok
returns-clause-ok c =
    let parts = c.self.inside.partitions in
    let part = c.index_mut-partition.result.now in
    let len : vec_len parts ≡ length parts.items = search rules in
    let there = rw (← c.self.view_is) at c.requires in
    let here : slice_get parts.items c.args.part ≡ Some part =
    slice_get_read parts.items (vec_len parts) c.args.part part len
    (omega (arith, there, len)) c.index_mut-partition.ensures.value in
    omega (arith, c.in_ok-reserve.ensures.ok, reserved_set parts.items c.args.part part c.reserve.new.self here)
