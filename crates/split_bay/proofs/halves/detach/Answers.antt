use Rattle.std.proofs.Common.{Option, ap, subst, sym, ◌∙◌}
use Rattle.positioning.specs.declared.positions.Pos.{Pos}
use Rattle.drive_commands.specs.declared.bays.Bay.{Bay}
use Rattle.drive_commands.specs.State.{IsBayPositioned}
use Rattle.tape_buffer.specs.State.{BufferState, state_of}
use Rattle.tape_buffer.specs.Taking.{DisksState}
use Rattle.bay_moves.specs.Elements.{BayState}
use Rattle.split_bay.specs.Backs.{disks_half}
use Rattle.split_bay.specs.Both.{DetachesIn}
use Rattle.split_bay.specs.Fronts.{hosts_half}
use Rattle.split_bay.specs.Halves.{Parts}
use Rattle.split_bay.proofs.HalvesLemmas.{gone_in, orders_gone, parts_so}
use Rattle.split_bay.proofs.JoiningLemmas.{HereBay, kept_bay}
use Rattle.split_bay.proofs.halves.detach.Goals as goal

pub detach_bay-lent-requires-clause-hand : goal.detach_bay-lent-requires-clause-hand
detach_bay-lent-requires-clause-hand g c =
    subst (λ (b : Bay (BufferState g.row.D.Denot)). HereBay b) (sym c.lift-bay.ensures.lifted)
    (kept_bay g.D.Disk.state c.args.drive.now.bay c.requires.keeps.cartridge)

pub lower-requires-clause-positioned : goal.lower-requires-clause-positioned
lower-requires-clause-positioned g c =
    let state = g.D.Disk.state in
    let lift = c.lift-bay.ensures in
    let old = c.args.drive.now in
    let bay = c.detach_bay-lent.new.bay in
    let lent = c.detach_bay-lent.result in
    subst (λ (p : Pos). IsBayPositioned (state_of state) bay p)
    (sym (ap (λ (b : BayState g.row.D.Denot). b.position) lift.left))
    ((gone_in state old.bay lent bay
    (subst (λ (b : Bay (BufferState g.row.D.Denot)). DetachesIn state b lent bay) lift.lifted
    c.detach_bay-lent.ensures.detaches)).on old.position lift.positioned)

pub returns-clause-parts : goal.returns-clause-parts
returns-clause-parts g c =
    let bay = c.detach_bay-lent.new.bay in
    let told = c.detach_bay-lent.ensures in
    let sending = c.detach_bay-lent.new.sending in
    let receiving = c.detach_bay-lent.new.receiving in
    subst (λ (o : Option (DisksState g.row.D.Denot)). Parts g.D.Disk.state c.args.drive.now c.args.sending.now
    (hosts_half c.lower.new.self sending) (disks_half receiving o)) (sym c.replace.ensures.after)
    (parts_so g.D.Disk.state c.args.drive.now c.lower.new.self c.lift-bay.result bay c.lift-bay.ensures.lifted
    (c.lower.ensures ∙ ap (λ (d : BayState g.row.D.Denot). record d { bay = bay }) c.lift-bay.ensures.left)
    c.args.sending.now sending (disks_half receiving c.detach_bay-lent.result) told.begins told.detaches told.number
    told.level told.front told.follows)

pub returns-clause-orders : goal.returns-clause-orders
returns-clause-orders g c =
    let bay = c.detach_bay-lent.new.bay in
    orders_gone g.D.Disk.state c.args.drive.now c.lower.new.self c.lift-bay.result bay c.lift-bay.ensures.lifted
    (c.lower.ensures ∙ ap (λ (d : BayState g.row.D.Denot). record d { bay = bay }) c.lift-bay.ensures.left)
    c.requires.keeps.reservations
