use Rattle.drive_theorems.proofs.RunLemmas.{events_run}
use Rattle.drive_theorems.proofs.laws.events_run.Goals as goal

pub returns : goal.returns
returns g c = events_run g.M.Catalog.state g.M.Medium.below g.K.Keeper.kept g.K.Keeper.below
