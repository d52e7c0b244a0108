use Rattle.std.proofs.Common.{refl, ap, Some}
use Rattle.pr_core.proofs.states.PrState.takes_over.Goals as goal

pub returns : goal.returns
returns c = λ set removed.
    rw c.in-Some.is (record {
      answered = refl;
      keys = c.without.ensures set removed;
      reservation = ap Some c.made_by.ensures;
      aptpl = refl;
      generation = c.raised.ensures;
      establishes = c.established_by_preemption.ensures set _ removed (c.released_by_type-released.ensures set removed);
    })
