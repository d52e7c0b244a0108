use Rattle.bay_moves.proofs.StopLemmas.{begins, goes_on, held_gives, outlive, stand}
use Rattle.bay_moves.proofs.laws.reservations.reservations_outlive_each_stop.Goals as goal

pub returns : goal.returns
returns g c = record {
  begins =
      begins g.M.Catalog.state g.M.Medium.below g.D.Disk.state c.power_loss_is_once.ensures.once;
  gives =
      held_gives g.M.Catalog.state g.M.Medium.below g.D.Disk.state g.met.D.Disk.is_disk c.rules_are_kept.ensures.orders
      c.saves_are_due_by_change.ensures c.power_loss_is_once.ensures.alike;
  goes_on =
      goes_on g.M.Catalog.state g.M.Medium.below g.D.Disk.state g.met.D.Disk.is_disk c.rules_are_kept.ensures.orders
      c.saves_are_due_by_change.ensures c.power_loss_is_once.ensures.alike;
  outlive =
      outlive g.M.Catalog.state g.M.Medium.below g.D.Disk.state g.met.D.Disk.is_disk c.rules_are_kept.ensures.orders
      c.saves_are_due_by_change.ensures c.power_loss_is_once.ensures.alike;
  stand =
      stand g.M.Catalog.state g.M.Medium.below g.D.Disk.state g.met.D.Disk.is_disk c.rules_are_kept.ensures.orders
      c.saves_are_due_by_change.ensures c.power_loss_is_once.ensures.alike;
}
