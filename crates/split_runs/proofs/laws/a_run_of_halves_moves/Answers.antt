use Rattle.split_runs.proofs.RunLemmas.{run_moves}
use Rattle.split_runs.proofs.laws.a_run_of_halves_moves.Goals as goal

pub returns : goal.returns
returns g c = run_moves g.D.Disk.state g.met.D.Disk.is_disk
