use Rattle.std.proofs.Common.{◌≡◌, ◌+◌, ◌-◌, ℕ, List, [], ◌∷◌, ◌++◌, length, take, refl, subst, sym, ap, ◌∙◌, arith, rules}
use Rattle.std.proofs.lemmas.List.{length-take, take_all}
use Rattle.object_index.specs.declared.runs.MarkRun.{MarkRun}
use Rattle.object_index.specs.declared.tables.BlockEntry.{BlockEntry}
use Rattle.object_index.specs.Inner.Tables.{AreTables, IsTable, blocks_of}
use Rattle.object_index.proofs.TableChanges.{all_few, objects_with_marks, tables_with_marks}
use Rattle.object_index.proofs.tables.ObjectTable.add_marks.Goals as goal

pub end_of-end-requires-clause-table : goal.end_of-end-requires-clause-table
end_of-end-requires-clause-table c =
    subst (λ (l : List BlockEntry). IsTable l) (sym c.deref.ensures.value) c.self.invariant.0.table

pub overflow_cast-blocks : goal.overflow_cast-blocks
overflow_cast-blocks c =
    let blocks = c.self.inside.blocks in
    let len : c.len-blocks.result ≡ length blocks.items = search rules in
    let end : c.end_of-end.result ≡ length (blocks_of blocks.items) =
    c.end_of-end.ensures
    ∙ (λ i. length (blocks_of (take (len i) (c.deref.ensures.value i))))
    ∙ ap (λ (l : List BlockEntry). length (blocks_of l))
    (take_all (length blocks.items) blocks.items (omega arith)) in
    let few =
    all_few blocks.items c.self.inside.runs.runs c.self.inside.count c.args.count c.end_of-end.result
    c.runs_below-closed.result.count c.runs_below-closed.result.last c.self.invariant.0 end
    c.runs_below-closed.ensures.last c.runs_below-closed.ensures.behind in
    omega (arith, few, len, end, c.self.invariant.0.within, c.self.ranges)

pub overflow_sub-end : goal.overflow_sub-end
overflow_sub-end c =
    let blocks = c.self.inside.blocks in
    let len : c.len-blocks.result ≡ length blocks.items = search rules in
    let end : c.end_of-end.result ≡ length (blocks_of blocks.items) =
    c.end_of-end.ensures
    ∙ (λ i. length (blocks_of (take (len i) (c.deref.ensures.value i))))
    ∙ ap (λ (l : List BlockEntry). length (blocks_of l))
    (take_all (length blocks.items) blocks.items (omega arith)) in
    let few =
    all_few blocks.items c.self.inside.runs.runs c.self.inside.count c.args.count c.end_of-end.result
    c.runs_below-closed.result.count c.runs_below-closed.result.last c.self.invariant.0 end
    c.runs_below-closed.ensures.last c.runs_below-closed.ensures.behind in
    omega (arith, few, len)

pub invariant_of-self : goal.invariant_of-self
invariant_of-self c =
    let blocks = c.self.inside.blocks in
    let len : c.len-blocks.result ≡ length blocks.items = search rules in
    let end : c.end_of-end.result ≡ length (blocks_of blocks.items) =
    c.end_of-end.ensures
    ∙ (λ i. length (blocks_of (take (len i) (c.deref.ensures.value i))))
    ∙ ap (λ (l : List BlockEntry). length (blocks_of l))
    (take_all (length blocks.items) blocks.items (omega arith)) in
    let total = c.self.inside.count + c.args.count in
    let room = rw (← c.self.view_is) at c.requires.room in
    let cost = rw (← c.self.view_is) at c.requires.cost in
    let made : ℕ → MarkRun = λ n.
    record { first = c.end_of-end.result; count = total - c.end_of-end.result; before = c.end_of-end.result - n } in
    let runs_are = c.push.ensures.runs
    ∙ ap (λ (l : List MarkRun). l ++ made c.len-blocks.result ∷ []) c.keep.ensures.runs in (
      subst (λ (l : List MarkRun). AreTables blocks.items l total) (sym runs_are)
          (tables_with_marks blocks.items c.self.inside.runs.runs c.self.inside.count c.args.count c.end_of-end.result
          c.runs_below-closed.result.count c.runs_below-closed.result.last c.self.invariant.0 end
          c.runs_below-closed.ensures.last c.runs_below-closed.ensures.behind (made c.len-blocks.result)
          c.requires.some (ap made len) cost),
      omega (arith, c.self.invariant.1),
      omega (
        arith,
        c.self.invariant.2,
        c.push.ensures.free,
        c.keep.ensures.free,
        ap length c.keep.ensures.runs,
        length-take c.runs_below-closed.result.count c.self.inside.runs.runs,
        room,
      ),
    )

pub returns-clause-objects : goal.returns-clause-objects
returns-clause-objects c =
    let blocks = c.self.inside.blocks in
    let len : c.len-blocks.result ≡ length blocks.items = search rules in
    let end : c.end_of-end.result ≡ length (blocks_of blocks.items) =
    c.end_of-end.ensures
    ∙ (λ i. length (blocks_of (take (len i) (c.deref.ensures.value i))))
    ∙ ap (λ (l : List BlockEntry). length (blocks_of l))
    (take_all (length blocks.items) blocks.items (omega arith)) in
    rw (← c.self.view_is)
    (objects_with_marks blocks.items c.self.inside.runs.runs c.self.inside.count c.args.count c.end_of-end.result
    c.runs_below-closed.result.count c.runs_below-closed.result.last c.self.invariant.0 end
    c.runs_below-closed.ensures.last c.runs_below-closed.ensures.behind)
