use Rattle.std.proofs.Common.{◌∙◌, Ok, Err, ap}
use Rattle.scsi_sense.specs.Replies.{good_with}
use Rattle.bay_moves.proofs.CarriedLemmas.{into_carries, into_comes_back, into_refused}
use Rattle.bay_moves.proofs.CountLemmas.{in_counts}
use Rattle.bay_moves.proofs.lent.into_drive.Goals as goal

pub returns-in-Some-clause-moved : goal.returns-in-Some-clause-moved
returns-in-Some-clause-moved g c bays named =
    into_refused g.D.Disk.state c.args.slots.now bays c.args.from c.args.to c.args.destination.now named
    c.slot_end.result c.drive_end.result c.in-Some.reply c.slot_end.ensures c.drive_end.ensures c.in-Some.ensures

pub returns-in-Ok-clause-moved : goal.returns-in-Ok-clause-moved
returns-in-Ok-clause-moved g c bays named =
    into_carries g.D.Disk.state c.args.slots.now bays c.args.from c.args.to c.args.destination.now named
    c.slot_end.result c.drive_end.result c.take_held-cartridge.new.slots c.load.new.self
    c.take_held-cartridge.result c.good.result
    c.slot_end.ensures c.drive_end.ensures c.in_default.ensures c.take_held-cartridge.ensures.out
    c.take_held-cartridge.ensures.left
    c.in-Ok.ensures.taken (c.good.ensures ∙ ap good_with c.new.ensures)

pub returns-in-Err-clause-moved : goal.returns-in-Err-clause-moved
returns-in-Err-clause-moved g c bays named =
    into_comes_back g.D.Disk.state c.args.slots.now bays c.args.from c.args.to c.args.destination.now named
    c.slot_end.result c.drive_end.result c.take_held-cartridge.new.slots c.fill.new.slots c.load.new.self
    c.take_held-cartridge.result
    c.in-Err.cartridge c.in-Err.reply c.slot_end.ensures c.drive_end.ensures c.in_default.ensures
    c.take_held-cartridge.ensures.out c.take_held-cartridge.ensures.left c.in-Err.ensures.taken c.fill.ensures

pub returns-in-Ok-clause-counted : goal.returns-in-Ok-clause-counted
returns-in-Ok-clause-counted g c =
    in_counts g.D.Disk.state c.args.destination.now c.take_held-cartridge.result (Ok tt) c.load.new.self
    c.in-Ok.ensures.taken

pub returns-in-Err-clause-counted : goal.returns-in-Err-clause-counted
returns-in-Err-clause-counted g c =
    in_counts g.D.Disk.state c.args.destination.now c.take_held-cartridge.result
    (Err (c.in-Err.cartridge, c.in-Err.reply)) c.load.new.self c.in-Err.ensures.taken
