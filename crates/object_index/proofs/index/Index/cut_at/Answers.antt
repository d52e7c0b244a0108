use Rattle.std.proofs.Common.{◌≡◌, List, length, take, arith, rules, Some, vec_len}
use Rattle.std.specs.Prelude.{slice_get}
use Rattle.std.proofs.lemmas.Option.{slice_get_read}
use Rattle.object_index.specs.declared.places.Placed.{Placed}
use Rattle.object_index.proofs.ChangedIndex.{limits_set, reserved_here, reserved_set, set_by}
use Rattle.object_index.proofs.index.Index.cut_at.Goals as goal

pub invariant_of-self : goal.invariant_of-self
invariant_of-self c =
    limits_set c.self.inside.partitions.items c.args.part c.cut.new.self c.self.invariant c.cut.ensures.limits

pub returns-clause-objects : goal.returns-clause-objects
returns-clause-objects c =
    let parts = c.self.inside.partitions in
    let part = c.index_mut-partition.result.now in
    let len : vec_len parts ≡ length parts.items = search rules in
    let there = rw (← c.self.view_is) at c.requires in
    let here : slice_get parts.items c.args.part ≡ Some part =
    slice_get_read parts.items (vec_len parts) c.args.part part len
    (omega (arith, there, len)) c.index_mut-partition.ensures.value in
    rw (← c.self.view_is)
    (set_by parts.items c.args.part part c.cut.new.self here
    (λ (l : List Placed). take c.args.n l) c.cut.ensures.objects)

pub returns-clause-reserved : goal.returns-clause-reserved
returns-clause-reserved c =
    let parts = c.self.inside.partitions in
    let part = c.index_mut-partition.result.now in
    let len : vec_len parts ≡ length parts.items = search rules in
    let there = rw (← c.self.view_is) at c.requires in
    let here : slice_get parts.items c.args.part ≡ Some part =
    slice_get_read parts.items (vec_len parts) c.args.part part len
    (omega (arith, there, len)) c.index_mut-partition.ensures.value in
    rw (← c.self.view_is) (omega (
      arith,
      c.cut.ensures.reserved,
      reserved_here parts.items c.args.part part c.cut.new.self here,
      reserved_set parts.items c.args.part part c.cut.new.self here,
    ))
