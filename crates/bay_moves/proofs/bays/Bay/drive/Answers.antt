use Rattle.std.proofs.Common.{subst}
use Rattle.bay_moves.specs.Elements.{BayState}
use Rattle.bay_moves.proofs.HandLemmas.{HereBay, kept_bay}
use Rattle.bay_moves.proofs.bays.Bay.drive.Goals as goal

pub returns-clause-hand : goal.returns-clause-hand
returns-clause-hand g c =
    subst (λ (d : BayState g.row.D.Denot). HereBay d.bay) c.self.view_is
    (kept_bay g.D.Disk.state c.self.inside.drive.bay c.self.invariant.cartridge)
