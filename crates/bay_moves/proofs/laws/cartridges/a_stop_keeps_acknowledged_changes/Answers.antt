use Rattle.bay_moves.proofs.CartridgeLemmas.{stops_keep_changes}
use Rattle.bay_moves.proofs.laws.cartridges.a_stop_keeps_acknowledged_changes.Goals as goal

pub returns : goal.returns
returns g c =
    stops_keep_changes g.D.Disk.state g.met.D.Disk.is_disk c.a_crash_leaves_what_was_acknowledged.ensures
    c.steps_keep_cores.ensures g.K.Keeper.kept g.K.Keeper.below
