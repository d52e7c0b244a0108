use Rattle.std.proofs.Common.{◌≡◌, ◌+◌, List, length, take, refl, subst, sym, ap, ◌∙◌, arith, rules, vec_len}
use Rattle.std.proofs.lemmas.List.{take_all}
use Rattle.object_index.specs.declared.tables.BlockEntry.{BlockEntry}
use Rattle.object_index.specs.Inner.Tables.{AreTables, IsTable, blocks_of, cost_of_objects, objects_of, padded}
use Rattle.object_index.proofs.TableLemmas.{length_padded}
use Rattle.object_index.proofs.TableChanges.{objects_with_block, tables_with_block}
use Rattle.object_index.proofs.tables.ObjectTable.add_block.Goals as goal

pub cost_up_to-before-requires-clause-table : goal.cost_up_to-before-requires-clause-table
cost_up_to-before-requires-clause-table c =
    subst (λ (l : List BlockEntry). IsTable l) (sym c.deref.ensures.value) c.self.invariant.0.table

pub invariant_of-self : goal.invariant_of-self
invariant_of-self c =
    let blocks = c.self.inside.blocks in
    let count = c.self.inside.count in
    let len : vec_len blocks ≡ length blocks.items = search rules in
    let room = rw (← c.self.view_is) at c.requires.room in
    let end = rw (← c.self.view_is) at c.requires.end in
    let cost = rw (← c.self.view_is) at c.requires.cost in
    let made : BlockEntry =
    record {
      place = c.args.place;
      cost = c.cost_up_to-before.result + c.args.size + 16;
      number = count;
      size = c.args.size;
    } in
    let before : c.cost_up_to-before.result ≡ cost_of_objects (objects_of blocks.items count) =
    c.cost_up_to-before.ensures
    ∙ (λ i. cost_of_objects (padded (blocks_of (take (c.len.ensures i) (c.deref.ensures.value i))) count))
    ∙ ap (λ (l : List BlockEntry). cost_of_objects (padded (blocks_of l) count))
    (take_all (vec_len blocks) blocks.items (omega (arith, len))) in (
      subst (λ (l : List BlockEntry). AreTables l c.self.inside.runs.runs (count + 1))
          (sym c.push_reserved.ensures.items)
          (tables_with_block blocks.items c.self.inside.runs.runs count c.self.invariant.0 made refl
          (omega (arith, end, length_padded (blocks_of blocks.items) count c.self.invariant.0.within))
          (omega (arith, before)) cost),
      omega (arith, c.push_reserved.ensures.len, c.push_reserved.ensures.capacity, c.self.invariant.1, room),
      omega (arith, c.self.invariant.2),
    )

pub returns-clause-objects : goal.returns-clause-objects
returns-clause-objects c =
    let made : BlockEntry =
    record {
      place = c.args.place;
      cost = c.cost_up_to-before.result + c.args.size + 16;
      number = c.self.inside.count;
      size = c.args.size;
    } in
    rw (← c.self.view_is)
    (ap (λ (l : List BlockEntry). objects_of l (c.self.inside.count + 1)) c.push_reserved.ensures.items
    ∙ objects_with_block c.self.inside.blocks.items c.self.inside.runs.runs c.self.inside.count c.self.invariant.0 made
    refl)
