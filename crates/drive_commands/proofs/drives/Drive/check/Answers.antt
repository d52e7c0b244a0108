use Rattle.std.proofs.Common.{◌∙◌, sym}
use Rattle.drive_commands.specs.Execute.{asked}
use Rattle.drive_commands.proofs.TakesLemmas.{denied_takes}
use Rattle.drive_commands.proofs.drives.Drive.check.Goals as goal

pub returns-in-Err : goal.returns-in-Err
returns-in-Err g c =
    rw c.deny.ensures.reply
    (denied_takes g.M.Catalog.state g.M.Medium.below g.K.Keeper.kept g.K.Keeper.below
    g.met.M.Medium.advances_nowhere g.met.K.Keeper.advances_nowhere
    (asked c.args.nexus c.args.cdb.now c.args.sent.now) c.args.self.now c.deny.new.self c.in-Err.denial
    (sym c.verdict.ensures.verdict ∙ c.in-Err.is) c.deny.ensures.left)
