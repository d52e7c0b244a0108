use Rattle.std.proofs.Common.{subst}
use Rattle.bay_moves.specs.Bays.{ShowsOrders}
use Rattle.bay_moves.specs.Elements.{BayState}
use Rattle.bay_moves.proofs.AcceptedLemmas.{shows_orders}
use Rattle.bay_moves.proofs.bays.Bay.known.Goals as goal

pub returns-clause-orders : goal.returns-clause-orders
returns-clause-orders g c =
    subst (λ (d : BayState g.row.D.Denot). ShowsOrders g.D.Disk.state d) c.self.view_is
    (shows_orders g.D.Disk.state c.reservations_outlive_each_stop.ensures.gives c.self.inside.drive
    c.self.invariant.reservations)
