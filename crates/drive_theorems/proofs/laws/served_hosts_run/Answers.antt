use Rattle.drive_theorems.proofs.RunLemmas.{served_runs}
use Rattle.drive_theorems.proofs.laws.served_hosts_run.Goals as goal

pub returns : goal.returns
returns g c = served_runs g.M.Catalog.state g.M.Medium.below g.K.Keeper.kept g.K.Keeper.below
