use Rattle.std.proofs.Common.{refl, false}
use Rattle.pr_core.specs.Sets.{nobody}
use Rattle.pr_core.specs.Preempt.{preempted_by}
use Rattle.pr_core.proofs.SetLemmas.{replicate_shows}
use Rattle.pr_core.proofs.states.PrState.preempt_registrants.Goals as goal

pub returns : goal.returns
returns c =
    let removed = preempted_by c.args.self.now c.args.nexus c.args.key in
    record {
      answered = refl;
      keys = c.without.ensures removed c.preempted_by-removed.ensures;
      reservation = refl;
      aptpl = refl;
      generation = c.raised.ensures;
      establishes =
          c.established_by_preemption.ensures removed nobody c.preempted_by-removed.ensures (replicate_shows false);
    }
