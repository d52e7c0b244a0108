use Rattle.std.proofs.Common.{rules, refl, ◌==◌}
use Rattle.pr_core.proofs.states.PrState.unregisters.Goals as goal

pub returns : goal.returns
returns c =
    let removed = c.row_of-removed.ensures (λ other. other == c.args.nexus) (λ other answer is post. search rules) in
    record {
      answered = refl;
      keys = c.without.ensures _ removed;
      reservation = c.left_without.ensures;
      aptpl = refl;
      generation = c.raised.ensures;
      establishes = c.established_without.ensures;
    }
