use Rattle.drive_commands.proofs.LoadLemmas.{load_steps}
use Rattle.drive_commands.proofs.drives.Drive.load.Goals as goal

pub returns-clause-step : goal.returns-clause-step
returns-clause-step g c =
    load_steps g.M.Catalog.state g.M.Medium.below g.K.Keeper.kept c.args.self.now c.args.medium c.take_in.result
    c.take_in.new.self
    c.requires.empty c.take_in.ensures
