use Rattle.bay_moves.proofs.JourneyLemmas.{keeps_what_is_safe, stops_keep_what_is_moved}
use Rattle.bay_moves.proofs.laws.cartridges.a_stop_keeps_acknowledged_changes_of_what_is_moved.Goals as goal

pub returns : goal.returns
returns g c = record {
  acknowledged =
      stops_keep_what_is_moved g.D.Disk.state g.met.D.Disk.is_disk c.a_crash_leaves_what_was_acknowledged.ensures
      c.steps_keep_cores.ensures;
  safe =
      keeps_what_is_safe g.D.Disk.state g.met.D.Disk.is_disk c.a_crash_leaves_what_was_acknowledged.ensures
      c.steps_keep_cores.ensures;
}
