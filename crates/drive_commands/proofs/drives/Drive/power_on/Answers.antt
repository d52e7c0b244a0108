use Rattle.drive_commands.proofs.LoadLemmas.{power_on_where}
use Rattle.drive_commands.proofs.drives.Drive.power_on.Goals as goal

pub returns-clause-step : goal.returns-clause-step
returns-clause-step g c = power_on_where g.M.Catalog.state g.M.Medium.below g.K.Keeper.kept c.args.medium
    c.args.reservations c.args.keeper
    c.switch_on.result c.requires.left
    c.switch_on.ensures
