use Rattle.std.proofs.Common.{sym, subst}
use Rattle.pr_core.specs.declared.states.PrState.{PrState}
use Rattle.pr_core.specs.Sound.{IsSound}
use Rattle.pr_core.proofs.RuleLemmas.{empty_is_sound}
use Rattle.pr_core.proofs.reservations.Reservations.empty.Goals as goal

pub invariant_of-result : goal.invariant_of-result
invariant_of-result c = subst (λ (state : PrState). IsSound state) (sym c.empty.ensures) empty_is_sound
