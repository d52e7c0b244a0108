use Rattle.std.proofs.Common.{arith, ap, sym}
use Rattle.std.proofs.lemmas.List.{length-map, length-take}
use Rattle.std.proofs.lemmas.List.Sums.{count_by-le-length}
use Rattle.std.specs.Prelude.{List, length, take}
use Rattle.volume_core.specs.declared.objects.Object.{Object}
use Rattle.object_index.specs.Places.{blank, filled, placed_objects}
use Rattle.object_index.specs.MarkRuns.{is_placed_mark}
use Rattle.object_index.specs.MarkFacts.{marks_outlined, objects_outlined}
use Rattle.object_index.proofs.index.IndexCatalog.marks_upto.Goals as goal

pub returns-in-Some-clause-marks : goal.returns-in-Some-clause-marks
returns-in-Some-clause-marks c =
    omega (
      arith,
      c.in-Some.ensures.found.2,
      c.min.ensures,
      marks_outlined c.args.self.now c.args.part c.args.n,
    )

pub returns-in-Some-clause-bound : goal.returns-in-Some-clause-bound
returns-in-Some-clause-bound c =
    let objects = placed_objects c.args.self.now c.args.part in
    omega (
      arith,
      c.in-Some.ensures.found.2,
      c.min.ensures,
      count_by-le-length is_placed_mark (take c.args.n objects),
      length-take c.args.n objects,
      c.count.ensures.count,
      c.count.ensures.bound,
      ap (λ (l : List Object). length l) (objects_outlined c.args.self.now c.args.part),
      length-map objects (filled blank),
    )

pub returns-in-None-clause-marks : goal.returns-in-None-clause-marks
returns-in-None-clause-marks c =
    omega (arith, c.in-None.ensures.found, marks_outlined c.args.self.now c.args.part c.args.n)
