use Rattle.std.proofs.Common.{refl, None}
use Rattle.pr_core.proofs.SetLemmas.{replicate_shows}
use Rattle.pr_core.proofs.states.PrState.clear.Goals as goal

pub returns : goal.returns
returns c = record {
  answered = refl;
  keys = replicate_shows None;
  reservation = refl;
  aptpl = refl;
  generation = c.raised.ensures;
  establishes = c.establishes_for_others.ensures;
}
