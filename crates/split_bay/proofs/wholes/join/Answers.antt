use Rattle.std.proofs.Common.{subst, sym}
use Rattle.bay_moves.specs.Elements.{BayState}
use Rattle.split_bay.specs.Backs.{BackState, disks_half}
use Rattle.split_bay.specs.Fronts.{FrontState, hosts_half}
use Rattle.split_bay.specs.Halves.{Joins}
use Rattle.split_bay.proofs.JoiningLemmas.{kept_bay}
use Rattle.split_bay.proofs.wholes.join.Goals as goal

pub of_drive-requires-clause-hand : goal.of_drive-requires-clause-hand
of_drive-requires-clause-hand g c =
    kept_bay g.D.Disk.state c.attach.new.drive.bay c.attach.ensures.keeps.cartridge

pub returns : goal.returns
returns g c =
    let state = g.D.Disk.state in
    let seen_back = disks_half c.back.inside.receiving c.back.inside.disks in
    let bay = c.of_drive.result in
    let ends = c.attach.new.sending in
    subst (λ (f : FrontState g.row.D.Denot). Joins state f c.args.back bay ends) c.front.view_is
    (subst (λ (b : BackState g.row.D.Denot).
    Joins state (hosts_half c.front.inside.drive c.front.inside.sending) b bay ends) c.back.view_is
    (subst (λ (d : BayState g.row.D.Denot).
    Joins state (hosts_half c.front.inside.drive c.front.inside.sending) seen_back d ends) (sym c.of_drive.ensures)
    c.attach.ensures.joins))
