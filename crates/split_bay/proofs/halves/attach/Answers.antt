use Rattle.std.proofs.Common.{ap, subst, sym, ◌∙◌}
use Rattle.positioning.specs.declared.positions.Pos.{Pos}
use Rattle.drive_commands.specs.declared.bays.Bay.{Bay}
use Rattle.drive_commands.specs.State.{IsBayPositioned}
use Rattle.tape_buffer.specs.State.{BufferState, state_of}
use Rattle.bay_moves.specs.Elements.{BayState}
use Rattle.split_bay.specs.Backs.{disks_half}
use Rattle.split_bay.specs.Both.{AttachesIn}
use Rattle.split_bay.specs.Fronts.{hosts_half}
use Rattle.split_bay.specs.Looks.{deferred_after}
use Rattle.split_bay.proofs.JoiningLemmas.{found_in, joins_so, keeps_joined}
use Rattle.split_bay.proofs.halves.attach.Goals as goal

pub lower-requires-clause-positioned : goal.lower-requires-clause-positioned
lower-requires-clause-positioned g c =
    let state = g.D.Disk.state in
    let lift = c.lift-bay.ensures in
    let old = c.args.drive.now in
    let bay = c.attach_bay-fails.new.bay in
    let sent = c.args.sending.now.sent in
    let received = c.args.receiving.now.received in
    let attaches = subst (λ (b : Bay (BufferState g.row.D.Denot)).
    AttachesIn state sent received c.args.disks.now b bay) lift.lifted c.attach_bay-fails.ensures.attaches in
    subst (λ (p : Pos). IsBayPositioned (state_of state) bay p)
    (sym (ap (λ (b : BayState g.row.D.Denot). b.position) lift.left))
    ((found_in state sent received c.args.disks.now old.bay bay attaches).on old.position lift.positioned)

pub returns-clause-joins : goal.returns-clause-joins
returns-clause-joins g c =
    let fails = c.attach_bay-fails.result in
    let bay = c.attach_bay-fails.new.bay in
    joins_so g.D.Disk.state (hosts_half c.args.drive.now c.args.sending.now)
    (disks_half c.args.receiving.now c.args.disks.now) c.lift-bay.result bay fails c.defer_where.new.drive
    c.attach_bay-fails.new.sending c.lift-bay.ensures.lifted c.attach_bay-fails.ensures.attaches
    c.attach_bay-fails.ensures.fails
    (c.defer_where.ensures
    ∙ ap (λ (d : BayState g.row.D.Denot). record d { deferred = deferred_after fails d.deferred })
    (c.lower.ensures ∙ ap (λ (d : BayState g.row.D.Denot). record d { bay = bay }) c.lift-bay.ensures.left))
    c.attach_bay-fails.ensures.sending

pub returns-clause-keeps : goal.returns-clause-keeps
returns-clause-keeps g c =
    keeps_joined g.D.Disk.state (hosts_half c.args.drive.now c.args.sending.now)
    (disks_half c.args.receiving.now c.args.disks.now) c.defer_where.new.drive c.attach_bay-fails.new.sending
    (returns-clause-joins g c) c.requires.orders c.known.ensures
