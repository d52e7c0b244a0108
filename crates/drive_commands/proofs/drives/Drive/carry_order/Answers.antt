use Rattle.std.proofs.Common.{◌≡◌, ◌∙◌, Err, false, sym, ap, subst}
use Rattle.std.proofs.lemmas.Result.{err_from_is_err_and}
use Rattle.pr_core.specs.declared.states.PrState.{PrState}
use Rattle.pr_core.specs.Orders.{Orders}
use Rattle.pr_core.specs.Saves.{needs_save}
use Rattle.drive_commands.specs.State.{DriveState}
use Rattle.drive_commands.proofs.OrderLemmas.{refused_takes, saved_takes, takes_from, unsaved_takes}
use Rattle.drive_commands.proofs.drives.Drive.carry_order.Goals as goal

pub returns-then-not-needs_save : goal.returns-then-not-needs_save
returns-then-not-needs_save g c =
    let state = g.M.Catalog.state in
    let below = g.M.Medium.below in
    let kept = g.K.Keeper.kept in
    let keeps = g.K.Keeper.below in
    let before : c.self.inside.reservations ≡ c.args.self.now.reservations =
    ap (λ (d : DriveState g.row.M.Denot g.row.K.Denot). d.reservations) c.self.view_is in
    let established = c.pr_out-answer.result.1 in
    rw (c.install.ensures.reply, c.install.ensures.left)
    (unsaved_takes state below kept keeps g.met.M.Medium.advances_nowhere g.met.K.Keeper.advances_nowhere
    c.args.order.now c.args.nexus c.args.self.now c.pr_out-answer.result.0 established c.pr_out-answer.new.self
    (subst (λ (s : PrState).
    Orders s c.args.nexus c.args.order.now c.pr_out-answer.result.0 established c.pr_out-answer.new.self)
    before c.pr_out-answer.ensures)
    (subst (λ (s : PrState). needs_save s c.pr_out-answer.new.self ≡ false) before
    (sym c.needs_save.ensures ∙ c.if-not-needs_save.true)))

pub returns-in_err-save : goal.returns-in_err-save
returns-in_err-save g c =
    let state = g.M.Catalog.state in
    let below = g.M.Medium.below in
    let kept = g.K.Keeper.kept in
    let keeps = g.K.Keeper.below in
    let works : (kept c.self.inside.keeper).failed ≡ false =
    ap (λ (d : DriveState g.row.M.Denot g.row.K.Denot). (kept d.keeper).failed) c.self.view_is ∙ c.requires in
    let exit = err_from_is_err_and c.from_residual.result c.from_residual.ensures.1 in
    rw (exit.1 ∙ ap Err exit.2)
    (takes_from state below kept keeps c.args.order.now c.args.nexus _ c.args.self.now _ _ c.self.view_is
    (refused_takes state below kept keeps g.met.M.Medium.advances_nowhere g.met.K.Keeper.advances_nowhere
    c.args.order.now c.args.nexus _ c.pr_out-answer.result.0 c.pr_out-answer.result.1 c.pr_out-answer.new.self
    c.pr_out-answer.ensures c.save.new.self (sym c.needs_save.ensures ∙ c.if-not-needs_save.false)
    c.in_err-save.field-0.0 works c.in_err-save.ensures.answer c.in_err-save.ensures.advances))

pub returns : goal.returns
returns g c =
    let state = g.M.Catalog.state in
    let below = g.M.Medium.below in
    let kept = g.K.Keeper.kept in
    let keeps = g.K.Keeper.below in
    rw (c.install-2.ensures.reply, c.install-2.ensures.left)
    (takes_from state below kept keeps c.args.order.now c.args.nexus _ c.args.self.now _ _ c.self.view_is
    (saved_takes state below kept keeps g.met.M.Medium.advances_nowhere g.met.K.Keeper.advances_nowhere
    c.args.order.now c.args.nexus _ c.pr_out-answer.result.0 c.pr_out-answer.result.1 c.pr_out-answer.new.self
    c.pr_out-answer.ensures c.save.new.self (sym c.needs_save.ensures ∙ c.if-not-needs_save.false)
    c.in_ok-save.ensures.answer c.in_ok-save.ensures.advances))
