use Rattle.std.proofs.Common.{◌∙◌, sym, ap}
use Rattle.drive_commands.specs.Faults.{reply_of}
use Rattle.drive_commands.specs.Execute.{asked}
use Rattle.drive_commands.proofs.AloneLemmas.{carried_answers, denied_answers}
use Rattle.drive_commands.proofs.drives.Drive.answer_lent.Goals as goal

pub returns-in-Ok-perform_lent : goal.returns-in-Ok-perform_lent
returns-in-Ok-perform_lent g c = λ cdb judged.
    carried_answers g.M.Catalog.state g.M.Medium.below g.K.Keeper.kept g.K.Keeper.below
    g.met.M.Medium.advances_nowhere g.met.K.Keeper.advances_nowhere
    (asked c.args.nexus cdb c.args.sent.now) c.args.self.now c.perform_lent.new.self c.in-Ok.command
    c.perform_lent.result c.in-Ok-perform_lent.reply c.perform_lent.new.sent (judged ∙ c.in-Ok.is)
    (ap reply_of (sym c.in-Ok-perform_lent.is)) c.perform_lent.ensures

pub returns-in-Err-perform_lent : goal.returns-in-Err-perform_lent
returns-in-Err-perform_lent g c = λ cdb judged.
    carried_answers g.M.Catalog.state g.M.Medium.below g.K.Keeper.kept g.K.Keeper.below
    g.met.M.Medium.advances_nowhere g.met.K.Keeper.advances_nowhere
    (asked c.args.nexus cdb c.args.sent.now) c.args.self.now c.perform_lent.new.self c.in-Ok.command
    c.perform_lent.result c.reply.result c.perform_lent.new.sent (judged ∙ c.in-Ok.is)
    (c.reply.ensures ∙ ap reply_of (sym c.in-Err-perform_lent.is)) c.perform_lent.ensures

pub returns-in-Err : goal.returns-in-Err
returns-in-Err g c = λ cdb judged.
    denied_answers g.M.Catalog.state g.M.Medium.below g.K.Keeper.kept g.K.Keeper.below
    g.met.M.Medium.advances_nowhere g.met.K.Keeper.advances_nowhere
    (asked c.args.nexus cdb c.args.sent.now) c.args.self.now c.deny.new.self c.in-Err.denial c.deny.result
    (judged ∙ c.in-Err.is) c.deny.ensures.reply c.deny.ensures.left
