use Rattle.split_runs.proofs.BegunLemmas.{begun_keep, told_seen}
use Rattle.split_runs.proofs.laws.parted_halves_keep.Goals as goal

pub returns-clause-keep : goal.returns-clause-keep
returns-clause-keep g c = begun_keep g.D.Disk.state g.met.D.Disk.is_disk

pub returns-clause-told : goal.returns-clause-told
returns-clause-told g c = told_seen g.D.Disk.state
