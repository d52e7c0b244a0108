use Rattle.bay_moves.proofs.AcceptedLemmas.{shows_orders}
use Rattle.bay_moves.proofs.laws.reservations.stores_show_orders.Goals as goal

pub returns : goal.returns
returns g c = shows_orders g.D.Disk.state c.reservations_outlive_each_stop.ensures.gives
