use Rattle.drive_commands.proofs.LoadLemmas.{unload_steps}
use Rattle.drive_commands.proofs.drives.Drive.unload.Goals as goal

pub returns-clause-step : goal.returns-clause-step
returns-clause-step g c =
    unload_steps g.M.Catalog.state g.M.Medium.below g.K.Keeper.kept c.args.self.now c.give_out.result
    c.give_out.new.self c.give_out.ensures.out
