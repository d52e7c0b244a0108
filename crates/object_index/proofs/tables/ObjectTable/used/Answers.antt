use Rattle.std.proofs.Common.{◌≡◌, ◌≤◌, ◌<◌, ◌^◌, List, length, take, subst, sym, ap, ◌∙◌, arith}
use Rattle.object_index.specs.declared.tables.BlockEntry.{BlockEntry}
use Rattle.object_index.specs.Inner.Tables.{IsSplitAt, IsTable, blocks_of, cost_of_objects, objects_of, padded}
use Rattle.object_index.proofs.TableLemmas.{length_padded}
use Rattle.object_index.proofs.SplitLemmas.{cost_within, front_length, taken, taken_min}
use Rattle.object_index.proofs.tables.ObjectTable.used.Goals as goal

pub cost_up_to-requires-clause-table : goal.cost_up_to-requires-clause-table
cost_up_to-requires-clause-table c =
    subst (λ (l : List BlockEntry). IsTable l) (sym c.deref.ensures.value) c.self.invariant.0.table

pub cost_up_to-requires-clause-behind : goal.cost_up_to-requires-clause-behind
cost_up_to-requires-clause-behind c =
    let items = c.self.inside.blocks.items in
    let n = c.min-n.result in
    let staying = c.blocks_before.result in
    let split = subst (λ (l : List BlockEntry). IsSplitAt l n staying) c.deref-2.ensures.value
    c.blocks_before.ensures.split in
    let few = subst (λ (l : List BlockEntry). staying ≤ length l) c.deref-2.ensures.value
    c.blocks_before.ensures.within in
    subst (λ (l : List BlockEntry). length (blocks_of (take staying l)) ≤ n) (sym c.deref.ensures.value)
    (front_length items c.self.inside.count n staying c.self.invariant.0.table c.self.invariant.0.within split few
    (omega (arith, c.min-n.ensures)))

pub cost_up_to-requires-clause-cost : goal.cost_up_to-requires-clause-cost
cost_up_to-requires-clause-cost c =
    let items = c.self.inside.blocks.items in
    let count = c.self.inside.count in
    let n = c.min-n.result in
    let staying = c.blocks_before.result in
    let split = subst (λ (l : List BlockEntry). IsSplitAt l n staying) c.deref-2.ensures.value
    c.blocks_before.ensures.split in
    let few = subst (λ (l : List BlockEntry). staying ≤ length l) c.deref-2.ensures.value
    c.blocks_before.ensures.within in
    let is = taken items count n staying c.self.invariant.0.table c.self.invariant.0.within split few
    (omega (arith, c.min-n.ensures)) in
    subst (λ (l : List BlockEntry). cost_of_objects (padded (blocks_of (take staying l)) n) < 2 ^ 64)
    (sym c.deref.ensures.value)
    (omega (arith, ap cost_of_objects is, cost_within (objects_of items count) n, c.self.invariant.0.cost))

pub returns : goal.returns
returns c =
    let items = c.self.inside.blocks.items in
    let count = c.self.inside.count in
    let n = c.min-n.result in
    let staying = c.blocks_before.result in
    let split = subst (λ (l : List BlockEntry). IsSplitAt l n staying) c.deref-2.ensures.value
    c.blocks_before.ensures.split in
    let few = subst (λ (l : List BlockEntry). staying ≤ length l) c.deref-2.ensures.value
    c.blocks_before.ensures.within in
    let is = taken items count n staying c.self.invariant.0.table c.self.invariant.0.within split few
    (omega (arith, c.min-n.ensures)) in
    let all = sym (length_padded (blocks_of items) count c.self.invariant.0.within) in
    rw (← c.self.view_is) (
    c.cost_up_to.ensures
    ∙ ap (λ (l : List BlockEntry). cost_of_objects (padded (blocks_of (take staying l)) n)) c.deref.ensures.value
    ∙ ap cost_of_objects (sym is ∙ (λ i. take (c.min-n.ensures i) (objects_of items count))
    ∙ taken_min (objects_of items count) c.args.n count all))
