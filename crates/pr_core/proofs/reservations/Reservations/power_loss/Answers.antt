use Rattle.std.proofs.Common.{sym, subst}
use Rattle.pr_core.specs.declared.states.PrState.{PrState}
use Rattle.pr_core.specs.Sound.{IsSound}
use Rattle.pr_core.proofs.RuleLemmas.{loss_keeps}
use Rattle.pr_core.proofs.reservations.Reservations.power_loss.Goals as goal

pub invariant_of-result : goal.invariant_of-result
invariant_of-result c =
    subst (λ (state : PrState). IsSound state) (sym c.power_loss.ensures) (loss_keeps _ c.self.invariant)
