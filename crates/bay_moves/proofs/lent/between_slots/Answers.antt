use Rattle.std.proofs.Common.{◌∙◌, ap}
use Rattle.scsi_sense.specs.Replies.{good_with}
use Rattle.bay_moves.proofs.CarriedLemmas.{slots_carry}
use Rattle.bay_moves.proofs.lent.between_slots.Goals as goal

pub returns : goal.returns
returns g c bays named =
    slots_carry g.D.Disk.state c.args.slots.now bays c.args.from c.args.to named c.slot_end.result c.slot_end-2.result
    c.take_held-cartridge.new.slots c.fill.new.slots c.take_held-cartridge.result c.good.result c.slot_end.ensures
    c.slot_end-2.ensures
    c.in_default.ensures c.take_held-cartridge.ensures.out c.take_held-cartridge.ensures.left c.fill.ensures
    (c.good.ensures ∙ ap good_with c.new.ensures)
