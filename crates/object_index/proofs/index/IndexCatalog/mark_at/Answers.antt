use Rattle.std.proofs.Common.{arith, ap}
use Rattle.std.proofs.lemmas.List.{length-map}
use Rattle.object_index.specs.Places.{blank, filled, placed_objects}
use Rattle.object_index.specs.MarkFacts.{mark_count_outlined, objects_outlined}
use Rattle.volume_core.specs.declared.objects.Object.{Object}
use Rattle.std.specs.Prelude.{List, length}
use Rattle.object_index.proofs.IndexMarks.{mark_of_run, run_within}
use Rattle.object_index.proofs.index.IndexCatalog.mark_at.Goals as goal

pub overflow_add-result : goal.overflow_add-result
overflow_add-result c =
    let parts = c.args.self.now in
    let found = c.in-Some.ensures.found in
    omega (
      arith,
      found.1,
      found.2,
      run_within parts c.args.part c.in-Some.run' found.0,
      c.count.ensures.count,
      c.count.ensures.bound,
      ap (λ (l : List Object). length l) (objects_outlined parts c.args.part),
      length-map (placed_objects parts c.args.part) (filled blank),
    )

pub unreachable-requires : goal.unreachable-requires
unreachable-requires c =
    omega (arith, c.requires.mark, mark_count_outlined c.args.self.now c.args.part, c.in-None.ensures.found)

pub returns : goal.returns
returns c =
    let found = c.in-Some.ensures.found in
    mark_of_run c.args.self.now c.args.part c.args.k c.in-Some.run' found.0 found.1 found.2
