use Rattle.std.proofs.Common.{rules}
use Rattle.pr_core.specs.Effects.{with_key}
use Rattle.pr_core.proofs.states.PrState.with_key.Goals as goal

pub returns : goal.returns
returns c =
    c.row_of.ensures (with_key c.args.self.now c.args.nexus c.args.key) (λ other answer is post. search rules)
