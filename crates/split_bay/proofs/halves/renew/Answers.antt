use Rattle.split_bay.specs.Backs.{disks_half}
use Rattle.split_bay.specs.Fronts.{hosts_half}
use Rattle.split_bay.proofs.HalvesLemmas.{holds_both}
use Rattle.split_bay.proofs.halves.renew.Goals as goal

pub returns : goal.returns
returns g c =
    let back = c.known-2.ensures in
    let holds = holds_both g.D.Disk.state (hosts_half c.front.inside.drive c.front.inside.sending) c.args.front.now
    (disks_half c.back.inside.receiving c.back.inside.disks) c.args.back.now c.attach.new.drive
    c.attach.new.drive
    c.attach.new.sending (hosts_half c.detach.new.drive c.detach.new.sending)
    (disks_half c.detach.new.receiving c.detach.new.disks) c.front.view_is c.back.view_is c.known.ensures.keeps
    (record { cartridge = back.cartridge; follows = back.follows; within = back.within }) c.attach.ensures.joins
    c.attach.ensures.keeps c.attach.ensures.keeps c.detach.ensures.positioned c.detach.ensures.parts in
    (c.attach.new.drive, holds)
