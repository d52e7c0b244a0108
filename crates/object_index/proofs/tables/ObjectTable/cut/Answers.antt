use Rattle.std.proofs.Common.{◌≡◌, ◌≤◌, ◌-◌, List, [], ◌∷◌, ◌++◌, length, take, refl, subst, sym, ap, ◌∙◌, arith}
use Rattle.std.proofs.lemmas.List.{length-take}
use Rattle.object_index.specs.declared.runs.MarkRun.{MarkRun}
use Rattle.object_index.specs.declared.tables.BlockEntry.{BlockEntry}
use Rattle.object_index.specs.Inner.Tables.{AreTables, IsSplitAt, IsTable, blocks_of, objects_of}
use Rattle.object_index.proofs.TableChanges.{cut_with_none, cut_with_run, staying_few, objects_cut, run_there}
use Rattle.object_index.proofs.tables.ObjectTable.cut.Goals as goal

pub end_of-end-requires-clause-table : goal.end_of-end-requires-clause-table
end_of-end-requires-clause-table c =
    subst (λ (l : List BlockEntry). IsTable l) (sym c.deref-2.ensures.value) c.self.invariant.0.table

pub overflow_cast-staying : goal.overflow_cast-staying
overflow_cast-staying c =
    let blocks = c.self.inside.blocks in
    let runs = c.self.inside.runs.runs in
    let staying = c.blocks_before-staying.result in
    let split = subst (λ (l : List BlockEntry). IsSplitAt l c.args.n staying) c.deref.ensures.value
    c.blocks_before-staying.ensures.split in
    let few = subst (λ (l : List BlockEntry). staying ≤ length l) c.deref.ensures.value
    c.blocks_before-staying.ensures.within in
    let end : c.end_of-end.result ≡ length (blocks_of (take staying blocks.items)) =
    c.end_of-end.ensures
    ∙ ap (λ (l : List BlockEntry). length (blocks_of (take staying l))) c.deref-2.ensures.value in
    let before =
    staying_few blocks.items runs c.self.inside.count c.args.n staying c.end_of-end.result
    c.runs_below-whole.result.count
    c.runs_below-whole.result.last c.self.invariant.0 split few c.if-n-self.false end
    c.runs_below-whole.ensures.last c.runs_below-whole.ensures.behind in
    omega (arith, before, c.if-end-n.true, c.ranges.n.fits)

pub overflow_sub-end : goal.overflow_sub-end
overflow_sub-end c =
    let blocks = c.self.inside.blocks in
    let runs = c.self.inside.runs.runs in
    let staying = c.blocks_before-staying.result in
    let split = subst (λ (l : List BlockEntry). IsSplitAt l c.args.n staying) c.deref.ensures.value
    c.blocks_before-staying.ensures.split in
    let few = subst (λ (l : List BlockEntry). staying ≤ length l) c.deref.ensures.value
    c.blocks_before-staying.ensures.within in
    let end : c.end_of-end.result ≡ length (blocks_of (take staying blocks.items)) =
    c.end_of-end.ensures
    ∙ ap (λ (l : List BlockEntry). length (blocks_of (take staying l))) c.deref-2.ensures.value in
    staying_few blocks.items runs c.self.inside.count c.args.n staying c.end_of-end.result
    c.runs_below-whole.result.count
    c.runs_below-whole.result.last c.self.invariant.0 split few c.if-n-self.false end
    c.runs_below-whole.ensures.last c.runs_below-whole.ensures.behind

pub push-requires : goal.push-requires
push-requires c =
    let blocks = c.self.inside.blocks in
    let runs = c.self.inside.runs.runs in
    let staying = c.blocks_before-staying.result in
    let split = subst (λ (l : List BlockEntry). IsSplitAt l c.args.n staying) c.deref.ensures.value
    c.blocks_before-staying.ensures.split in
    let few = subst (λ (l : List BlockEntry). staying ≤ length l) c.deref.ensures.value
    c.blocks_before-staying.ensures.within in
    let end : c.end_of-end.result ≡ length (blocks_of (take staying blocks.items)) =
    c.end_of-end.ensures
    ∙ ap (λ (l : List BlockEntry). length (blocks_of (take staying l))) c.deref-2.ensures.value in
    let there =
    run_there blocks.items runs c.self.inside.count c.args.n staying c.end_of-end.result c.runs_below-whole.result.count
    c.runs_below-whole.result.last c.self.invariant.0 split few c.if-n-self.false end
    c.runs_below-whole.ensures.last c.runs_below-whole.ensures.behind
    c.if-end-n.true in
    omega (
      arith,
      c.keep.ensures.free,
      ap length c.keep.ensures.runs,
      length-take c.runs_below-whole.result.count runs,
      there,
    )

pub invariant_of-self : goal.invariant_of-self
invariant_of-self c =
    let blocks = c.self.inside.blocks in
    let runs = c.self.inside.runs.runs in
    let staying = c.blocks_before-staying.result in
    let split = subst (λ (l : List BlockEntry). IsSplitAt l c.args.n staying) c.deref.ensures.value
    c.blocks_before-staying.ensures.split in
    let few = subst (λ (l : List BlockEntry). staying ≤ length l) c.deref.ensures.value
    c.blocks_before-staying.ensures.within in
    let end : c.end_of-end.result ≡ length (blocks_of (take staying blocks.items)) =
    c.end_of-end.ensures
    ∙ ap (λ (l : List BlockEntry). length (blocks_of (take staying l))) c.deref-2.ensures.value in
    let made : MarkRun =
    record {
      first = c.end_of-end.result;
      count = c.args.n - c.end_of-end.result;
      before = c.end_of-end.result - staying;
    } in
    let runs_are = c.push.ensures.runs ∙ ap (λ (l : List MarkRun). l ++ made ∷ []) c.keep.ensures.runs in
    let there =
    run_there blocks.items runs c.self.inside.count c.args.n staying c.end_of-end.result c.runs_below-whole.result.count
    c.runs_below-whole.result.last c.self.invariant.0 split few c.if-n-self.false end
    c.runs_below-whole.ensures.last c.runs_below-whole.ensures.behind
    c.if-end-n.true in
    let are =
    cut_with_run blocks.items runs c.self.inside.count c.args.n staying c.end_of-end.result
    c.runs_below-whole.result.count
    c.runs_below-whole.result.last c.self.invariant.0 split few c.if-n-self.false end
    c.runs_below-whole.ensures.last c.runs_below-whole.ensures.behind
    made c.if-end-n.true refl in (
      subst (λ (l : List BlockEntry). AreTables l c.push.new.self.runs c.args.n) (sym c.truncate.ensures.items)
          (subst (λ (l : List MarkRun). AreTables (take staying blocks.items) l c.args.n) (sym runs_are) are),
      omega (arith, c.truncate.ensures.len, c.truncate.ensures.capacity, c.self.invariant.1),
      omega (
        arith,
        c.self.invariant.2,
        c.push.ensures.free,
        c.keep.ensures.free,
        ap length c.keep.ensures.runs,
        length-take c.runs_below-whole.result.count runs,
        there,
      ),
    )

pub invariant_of-self-else-end-n : goal.invariant_of-self-else-end-n
invariant_of-self-else-end-n c =
    let blocks = c.self.inside.blocks in
    let runs = c.self.inside.runs.runs in
    let staying = c.blocks_before-staying.result in
    let split = subst (λ (l : List BlockEntry). IsSplitAt l c.args.n staying) c.deref.ensures.value
    c.blocks_before-staying.ensures.split in
    let few = subst (λ (l : List BlockEntry). staying ≤ length l) c.deref.ensures.value
    c.blocks_before-staying.ensures.within in
    let end : c.end_of-end.result ≡ length (blocks_of (take staying blocks.items)) =
    c.end_of-end.ensures
    ∙ ap (λ (l : List BlockEntry). length (blocks_of (take staying l))) c.deref-2.ensures.value in
    let are =
    cut_with_none blocks.items runs c.self.inside.count c.args.n staying c.end_of-end.result
    c.runs_below-whole.result.count
    c.runs_below-whole.result.last c.self.invariant.0 split few c.if-n-self.false end
    c.runs_below-whole.ensures.last c.runs_below-whole.ensures.behind
    c.if-end-n.false in (
      subst (λ (l : List BlockEntry). AreTables l c.keep.new.self.runs c.args.n) (sym c.truncate.ensures.items)
          (subst (λ (l : List MarkRun). AreTables (take staying blocks.items) l c.args.n) (sym c.keep.ensures.runs)
          are),
      omega (arith, c.truncate.ensures.len, c.truncate.ensures.capacity, c.self.invariant.1),
      omega (
        arith,
        c.self.invariant.2,
        c.keep.ensures.free,
        ap length c.keep.ensures.runs,
        length-take c.runs_below-whole.result.count runs,
      ),
    )

pub returns-then-end-n-clause-objects : goal.returns-then-end-n-clause-objects
returns-then-end-n-clause-objects c =
    let blocks = c.self.inside.blocks in
    let runs = c.self.inside.runs.runs in
    let staying = c.blocks_before-staying.result in
    let split = subst (λ (l : List BlockEntry). IsSplitAt l c.args.n staying) c.deref.ensures.value
    c.blocks_before-staying.ensures.split in
    let few = subst (λ (l : List BlockEntry). staying ≤ length l) c.deref.ensures.value
    c.blocks_before-staying.ensures.within in
    let end : c.end_of-end.result ≡ length (blocks_of (take staying blocks.items)) =
    c.end_of-end.ensures
    ∙ ap (λ (l : List BlockEntry). length (blocks_of (take staying l))) c.deref-2.ensures.value in
    rw (← c.self.view_is)
    (ap (λ (l : List BlockEntry). objects_of l c.args.n) c.truncate.ensures.items
    ∙ objects_cut blocks.items runs c.self.inside.count c.args.n staying c.end_of-end.result
    c.runs_below-whole.result.count
    c.runs_below-whole.result.last c.self.invariant.0 split few c.if-n-self.false end
    c.runs_below-whole.ensures.last c.runs_below-whole.ensures.behind)

pub returns-else-end-n-clause-objects : goal.returns-else-end-n-clause-objects
returns-else-end-n-clause-objects c =
    let blocks = c.self.inside.blocks in
    let runs = c.self.inside.runs.runs in
    let staying = c.blocks_before-staying.result in
    let split = subst (λ (l : List BlockEntry). IsSplitAt l c.args.n staying) c.deref.ensures.value
    c.blocks_before-staying.ensures.split in
    let few = subst (λ (l : List BlockEntry). staying ≤ length l) c.deref.ensures.value
    c.blocks_before-staying.ensures.within in
    let end : c.end_of-end.result ≡ length (blocks_of (take staying blocks.items)) =
    c.end_of-end.ensures
    ∙ ap (λ (l : List BlockEntry). length (blocks_of (take staying l))) c.deref-2.ensures.value in
    rw (← c.self.view_is)
    (ap (λ (l : List BlockEntry). objects_of l c.args.n) c.truncate.ensures.items
    ∙ objects_cut blocks.items runs c.self.inside.count c.args.n staying c.end_of-end.result
    c.runs_below-whole.result.count
    c.runs_below-whole.result.last c.self.invariant.0 split few c.if-n-self.false end
    c.runs_below-whole.ensures.last c.runs_below-whole.ensures.behind)
