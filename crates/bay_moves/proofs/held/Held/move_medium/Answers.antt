use Rattle.std.proofs.Common.{◌≡◌, ◌∙◌, ap, subst, Option, IfNone}
use Rattle.bay_moves.specs.Elements.{BayState, HeldState}
use Rattle.bay_moves.specs.Inner.Lifted.{with_bay}
use Rattle.bay_moves.specs.Lent.{IsDriveAddress}
use Rattle.bay_moves.specs.Moves.{KeepsCartridges}
use Rattle.bay_moves.proofs.LiftedLemmas.{some_is}
use Rattle.bay_moves.proofs.held.Held.move_medium.Goals as goal

pub returns-in-Some-Some-clause-keeps : goal.returns-in-Some-Some-clause-keeps
returns-in-Some-Some-clause-keeps g c =
    let second = some_is c.take_drive-destination.result c.in-Some-Some.destination
    (λ (bay : BayState g.row.D.Denot). IsDriveAddress c.args.to
    × (with_bay c.args.to bay c.take_drive-destination.new.self ≡ c.take_drive-source.new.self))
    c.in-Some-Some.is-1 c.take_drive-destination.ensures.some in
    let first = some_is c.take_drive-source.result c.in-Some-Some.source
    (λ (bay : BayState g.row.D.Denot). IsDriveAddress c.args.from
    × (with_bay c.args.from bay c.take_drive-source.new.self ≡ c.args.self.now))
    c.in-Some-Some.is-0 c.take_drive-source.ensures.some in
    subst (λ (h : HeldState g.row.D.Denot). KeepsCartridges g.D.Disk.state h c.args.from c.args.to
    c.move_between_drives.result c.move_between_drives.new.self)
    (ap (λ (h : HeldState g.row.D.Denot). with_bay c.args.from c.in-Some-Some.source h) second.1 ∙ first.1)
    c.move_between_drives.ensures.keeps

pub returns-in-Some-None-clause-keeps : goal.returns-in-Some-None-clause-keeps
returns-in-Some-None-clause-keeps g c =
    let same = subst (λ (found : Option (BayState g.row.D.Denot)). IfNone found
    (c.take_drive-destination.new.self ≡ c.take_drive-source.new.self)) c.in-Some-None.is-1
    c.take_drive-destination.ensures.none in
    let first = some_is c.take_drive-source.result c.in-Some-None.source
    (λ (bay : BayState g.row.D.Denot). IsDriveAddress c.args.from
    × (with_bay c.args.from bay c.take_drive-source.new.self ≡ c.args.self.now))
    c.in-Some-None.is-0 c.take_drive-source.ensures.some in
    subst (λ (h : HeldState g.row.D.Denot). KeepsCartridges g.D.Disk.state h c.args.from c.args.to
    c.move_out_of_drive.result c.move_out_of_drive.new.self)
    (ap (λ (h : HeldState g.row.D.Denot). with_bay c.args.from c.in-Some-None.source h) same ∙ first.1)
    c.move_out_of_drive.ensures.keeps
