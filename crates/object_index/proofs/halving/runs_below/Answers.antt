use Rattle.std.proofs.Common.{◌≡◌, ◌≤◌, ◌<◌, ◌+◌, ◌-◌, ◌*◌, ◌/◌, ℕ, Some, length, arith, subst, sym}
use Rattle.std.specs.Prelude.{Option, slice_get}
use Rattle.object_index.specs.declared.runs.MarkRun.{MarkRun}
use Rattle.object_index.specs.Inner.RunSearch.{IsNotBelow}
use Rattle.object_index.proofs.StepLemmas.{doubled, halved, twice}
use Rattle.object_index.proofs.halving.runs_below.Goals as goal

pub loop-from-preserved-then-key_of-bound : goal.loop-from-preserved-then-key_of-bound
loop-from-preserved-then-key_of-bound c =
    let inv = c.loop-from.invariant in
    let from = c.loop-from.from in
    let to = c.loop-from.to in
    let half = from + (to - from) / 2 in
    let double =
    doubled c.args.steps.now c.loop-from.steps c.at-run.new.steps inv.grows c.at-run.ensures.grows
    c.at-run.ensures.step in
    record {
      ordered = omega (arith, inv.ordered, c.loop-from-test.true);
      within = inv.within;
      last = (
        omega arith,
        subst (λ (n : ℕ). slice_get c.args.runs.now.runs n ≡ Some c.at-run.result) (omega (arith, inv.ordered))
            c.at-run.ensures.run,
        subst (λ (n : ℕ). n < c.args.bound) c.key_of.ensures c.if-key_of-bound.true,
      );
      behind = inv.behind;
      grows = omega (arith, inv.grows, c.at-run.ensures.grows);
      narrows = halved _ _ (to - from) (to - (half + 1)) _ inv.narrows double (omega (arith, inv.ordered));
      few = twice _ _ (to - from) _ inv.narrows double (omega (arith, c.loop-from-test.true));
    }

pub loop-from-preserved : goal.loop-from-preserved
loop-from-preserved c =
    let inv = c.loop-from.invariant in
    let from = c.loop-from.from in
    let to = c.loop-from.to in
    let half = from + (to - from) / 2 in
    let double =
    doubled c.args.steps.now c.loop-from.steps c.at-run.new.steps inv.grows c.at-run.ensures.grows
    c.at-run.ensures.step in
    record {
      ordered = omega arith;
      within = omega (arith, inv.within, inv.ordered);
      last = inv.last;
      behind =
          subst (λ (o : Option MarkRun). IsNotBelow o c.args.by c.args.bound) (sym c.at-run.ensures.run)
          (subst (λ (n : ℕ). c.args.bound ≤ n) c.key_of.ensures c.if-key_of-bound.false);
      grows = omega (arith, inv.grows, c.at-run.ensures.grows);
      narrows = halved _ _ (to - from) (half - from) _ inv.narrows double (omega (arith, inv.ordered));
      few = twice _ _ (to - from) _ inv.narrows double (omega (arith, c.loop-from-test.true));
    }
