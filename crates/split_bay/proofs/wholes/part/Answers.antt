use Rattle.std.proofs.Common.{subst, sym}
use Rattle.bay_moves.specs.Bays.{KeepsBoth}
use Rattle.bay_moves.specs.Elements.{BayState}
use Rattle.split_bay.specs.Backs.{disks_half}
use Rattle.split_bay.specs.Fronts.{hosts_half}
use Rattle.split_bay.specs.Halves.{Parts}
use Rattle.split_bay.specs.Rings.{SendingState}
use Rattle.split_bay.proofs.wholes.part.Goals as goal

pub detach-requires-clause-keeps : goal.detach-requires-clause-keeps
detach-requires-clause-keeps g c =
    subst (λ (d : BayState g.row.D.Denot). KeepsBoth g.D.Disk.state d) (sym c.into_drive-drive.ensures.same)
    c.into_drive-drive.ensures.keeps

pub returns : goal.returns
returns g c =
    let state = g.D.Disk.state in
    let front = hosts_half c.detach.new.drive c.detach.new.sending in
    let back = disks_half c.detach.new.receiving c.detach.new.disks in
    subst (λ (s : SendingState). Parts state c.args.bay s front back) c.ends.view_is
    (subst (λ (d : BayState g.row.D.Denot). Parts state d c.ends.inside.sending front back)
    c.into_drive-drive.ensures.same c.detach.ensures.parts)
