use Rattle.pr_core.proofs.RuleLemmas.{orders_keep}
use Rattle.pr_core.proofs.reservations.Reservations.pr_out.Goals as goal

pub invariant_of-self : goal.invariant_of-self
invariant_of-self c =
    orders_keep _ c.args.nexus c.args.order.now _ _ _ c.self.invariant c.ordered-outcome.ensures
