use Rattle.split_runs.proofs.StopLemmas.{halves_stop_keep}
use Rattle.split_runs.proofs.laws.a_stop_keeps_what_halves_acknowledged.Goals as goal

pub returns : goal.returns
returns g c =
    halves_stop_keep g.D.Disk.state g.met.D.Disk.is_disk c.a_crash_leaves_what_was_acknowledged.ensures
    c.events_keep_their_base.ensures
