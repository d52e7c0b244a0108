use Rattle.drive_commands.specs.State.{machine_of, medium_in}
use Rattle.drive_commands.specs.Execute.{HonestIn, asked}
use Rattle.drive_commands.proofs.SettledLemmas.{settled}
use Rattle.drive_commands.proofs.drives.Drive.execute.Goals as goal

pub returns-in-Ok-clause-settled : goal.returns-in-Ok-clause-settled
returns-in-Ok-clause-settled g c =
    let state = g.M.Catalog.state in
    let step = rw c.in-Ok.is at c.check.ensures in
    settled (HonestIn g.M.Medium.below (medium_in c.args.self.now.bay)) (machine_of state g.K.Keeper.kept
    c.args.self.now)
    (asked c.args.nexus c.args.cdb.now c.args.sent.now) c.in-Ok.reply step.made (machine_of state g.K.Keeper.kept
    c.check.new.self)
    step.step
