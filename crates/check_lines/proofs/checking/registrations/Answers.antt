use Rattle.std.proofs.Common.{◌∙◌, ap, filter, is_some, length}
use Rattle.pr_core.specs.declared.states.PrState.{PrState}
use Rattle.check_lines.proofs.SideTextLemmas.{keys_counted}
use Rattle.check_lines.proofs.checking.registrations.Goals as goal

pub returns : goal.returns
returns c =
    c.count_keys.ensures ∙ ap (λ (state : PrState). length (filter is_some state.keys)) c.state.ensures.state
    ∙ keys_counted c.args.reservations.now c.state.ensures.sound.all
