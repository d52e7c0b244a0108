use Rattle.split_runs.proofs.FaultLemmas.{stuck_rest, told_none, told_once}
use Rattle.split_runs.proofs.laws.faults_stop_halves.Goals as goal

pub returns-clause-rest : goal.returns-clause-rest
returns-clause-rest g c = stuck_rest g.D.Disk.state

pub returns-clause-told : goal.returns-clause-told
returns-clause-told g c = told_none g.D.Disk.state g.met.D.Disk.is_disk

pub returns-clause-once : goal.returns-clause-once
returns-clause-once g c = told_once g.D.Disk.state
