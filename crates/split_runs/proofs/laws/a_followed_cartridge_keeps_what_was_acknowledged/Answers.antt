use Rattle.split_runs.proofs.PlaceLemmas.{followed_moves, followed_stop_keep}
use Rattle.split_runs.proofs.laws.a_followed_cartridge_keeps_what_was_acknowledged.Goals as goal

pub returns-clause-moves : goal.returns-clause-moves
returns-clause-moves g c = followed_moves g.D.Disk.state g.met.D.Disk.is_disk

pub returns-clause-stops : goal.returns-clause-stops
returns-clause-stops g c =
    followed_stop_keep g.D.Disk.state g.met.D.Disk.is_disk c.a_crash_leaves_what_was_acknowledged.ensures
    c.events_keep_their_base.ensures
