use Rattle.std.proofs.Common.{subst}
use Rattle.bay_moves.specs.Bays.{ShowsOrders}
use Rattle.split_bay.specs.Fronts.{FrontState}
use Rattle.split_bay.proofs.fronts.Front.known.Goals as goal

pub returns-clause-orders : goal.returns-clause-orders
returns-clause-orders g c =
    subst (λ (f : FrontState g.row.D.Denot). ShowsOrders g.D.Disk.state f.drive) c.self.view_is
    (c.stores_show_orders.ensures c.self.inside.drive c.self.invariant.1)
