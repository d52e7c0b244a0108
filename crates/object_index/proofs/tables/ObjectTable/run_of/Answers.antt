use Rattle.std.proofs.Common.{◌≡◌, ◌+◌, ◌-◌, arith, subst}
use Rattle.std.specs.Prelude.{Option}
use Rattle.object_index.specs.declared.runs.MarkRun.{MarkRun}
use Rattle.object_index.specs.declared.halving.Key.TheVariants.{Before}
use Rattle.object_index.specs.Inner.RunSearch.{IsLastBelow}
use Rattle.object_index.specs.Inner.Tables.{objects_of}
use Rattle.object_index.proofs.RunLemmas.{with_last, with_none}
use Rattle.object_index.proofs.tables.ObjectTable.run_of.Goals as goal

pub returns-in_default-clause-found : goal.returns-in_default-clause-found
returns-in_default-clause-found c =
    let below = subst (λ (o : Option MarkRun). IsLastBelow c.self.inside.runs.runs Before (c.args.k + 1)
    c.runs_below.result.count o) c.in_default.is c.runs_below.ensures.last in
    rw (← c.self.view_is)
    (with_none (objects_of c.self.inside.blocks.items c.self.inside.count) c.self.inside.runs.runs
    c.self.invariant.0.are_runs c.args.k c.runs_below.result.count below c.runs_below.ensures.behind)

pub returns-then-k-run-clause-found : goal.returns-then-k-run-clause-found
returns-then-k-run-clause-found c =
    let below = subst (λ (o : Option MarkRun). IsLastBelow c.self.inside.runs.runs Before (c.args.k + 1)
    c.runs_below.result.count o) c.in-Some.is c.runs_below.ensures.last in
    rw (← c.self.view_is) (
      (c.self.inside.runs.runs, c.self.invariant.0.are_runs, c.runs_below.result.count - 1, below.1),
      omega (arith, below.2),
      omega
          (arith, below.2, c.if-k-run.true),
    )

pub returns-else-k-run-clause-found : goal.returns-else-k-run-clause-found
returns-else-k-run-clause-found c =
    let below = subst (λ (o : Option MarkRun). IsLastBelow c.self.inside.runs.runs Before (c.args.k + 1)
    c.runs_below.result.count o) c.in-Some.is c.runs_below.ensures.last in
    rw (← c.self.view_is)
    (with_last (objects_of c.self.inside.blocks.items c.self.inside.count) c.self.inside.runs.runs
    c.self.invariant.0.are_runs c.args.k c.runs_below.result.count c.in-Some.run' below c.runs_below.ensures.behind
    (omega (arith, below.2, c.if-k-run.false)))
