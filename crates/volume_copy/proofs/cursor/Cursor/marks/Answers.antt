use Rattle.std.proofs.Common.{arith}
use Rattle.object_index.specs.Places.{placed_objects}
use Rattle.volume_copy.specs.EntryFacts.{count_placed}
use Rattle.volume_copy.proofs.RunLemmas.{inside, reaches_at, runs_on, some_run}
use Rattle.volume_copy.proofs.cursor.Cursor.marks.Goals as goal

pub overflow_add-result : goal.overflow_add-result
overflow_add-result c =
    let parts = c.args.index.now in
    let part = c.args.self.part in
    let objects = placed_objects parts part in
    let found = c.in-Some.ensures.found in
    omega (
      arith,
      inside objects c.args.self.at c.requires c.in-Some.run' found,
      count_placed parts part,
      c.count.ensures.count,
      c.count.ensures.bound,
    )

pub overflow_sub-result : goal.overflow_sub-result
overflow_sub-result c =
    reaches_at (placed_objects c.args.index.now c.args.self.part) c.args.self.at c.requires c.in-Some.run'
    c.in-Some.ensures.found

pub unreachable-requires : goal.unreachable-requires
unreachable-requires c =
    some_run (placed_objects c.args.index.now c.args.self.part) c.args.self.at c.requires c.in-None.ensures.found

pub returns-clause-runs : goal.returns-clause-runs
returns-clause-runs c =
    runs_on (placed_objects c.args.index.now c.args.self.part) c.args.self.at c.requires c.in-Some.run'
    c.in-Some.ensures.found

pub returns-clause-bound : goal.returns-clause-bound
returns-clause-bound c =
    let parts = c.args.index.now in
    let part = c.args.self.part in
    let objects = placed_objects parts part in
    let found = c.in-Some.ensures.found in
    omega (
      arith,
      inside objects c.args.self.at c.requires c.in-Some.run' found,
      reaches_at objects c.args.self.at c.requires c.in-Some.run' found,
      count_placed parts part,
      c.count.ensures.count,
      c.count.ensures.bound,
    )
