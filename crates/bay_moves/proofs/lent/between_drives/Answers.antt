use Rattle.std.proofs.Common.{◌∙◌, Ok, Err, ap}
use Rattle.scsi_sense.specs.Replies.{good_with}
use Rattle.bay_moves.proofs.DrivesLemmas.{drives_back, drives_carry, drives_refused, drives_stay}
use Rattle.bay_moves.specs.Elements.{BayState}
use Rattle.bay_moves.proofs.CountLemmas.{in_counts, out_counts}
use Rattle.bay_moves.proofs.lent.between_drives.Goals as goal

pub returns-in-Some-clause-moved : goal.returns-in-Some-clause-moved
returns-in-Some-clause-moved g c bays named =
    drives_refused g.D.Disk.state c.args.slots.now bays c.args.from c.args.to c.args.source.now c.args.destination.now
    named c.drive_end.result c.drive_end-2.result c.in-Some.reply c.drive_end.ensures c.drive_end-2.ensures
    c.in-Some.ensures

pub returns-in-Err-clause-moved : goal.returns-in-Err-clause-moved
returns-in-Err-clause-moved g c bays named =
    drives_stay g.D.Disk.state c.args.slots.now bays c.args.from c.args.to c.args.source.now c.args.destination.now
    named c.drive_end.result c.drive_end-2.result c.unload.new.self c.in-Err.reply c.drive_end.ensures
    c.drive_end-2.ensures c.in_default.ensures c.in-Err.ensures.out c.in-Err.ensures.awake

pub returns-in-Ok-load-clause-moved : goal.returns-in-Ok-load-clause-moved
returns-in-Ok-load-clause-moved g c bays named =
    drives_carry g.D.Disk.state c.args.slots.now bays c.args.from c.args.to c.args.source.now c.args.destination.now
    named c.drive_end.result c.drive_end-2.result c.unload.new.self c.load.new.self c.in-Ok.cartridge c.good.result
    c.drive_end.ensures c.drive_end-2.ensures c.in_default.ensures c.in-Ok.ensures.out c.in-Ok.ensures.awake
    c.in-Ok-load.ensures.taken (c.good.ensures ∙ ap good_with c.new.ensures)

pub returns-in-Err-load-clause-moved : goal.returns-in-Err-load-clause-moved
returns-in-Err-load-clause-moved g c bays named =
    drives_back g.D.Disk.state c.args.slots.now bays c.args.from c.args.to c.args.source.now c.args.destination.now
    named c.drive_end.result c.drive_end-2.result c.unload.new.self c.load.new.self c.insert.new.self
    c.in-Ok.cartridge c.in-Err-load.cartridge c.in-Err-load.reply c.drive_end.ensures c.drive_end-2.ensures
    c.in_default.ensures c.in-Ok.ensures.out c.in-Ok.ensures.awake c.in-Err-load.ensures.taken
    c.insert.ensures.inserted

pub returns-in-Err-clause-counted_out : goal.returns-in-Err-clause-counted_out
returns-in-Err-clause-counted_out g c =
    out_counts g.D.Disk.state c.args.source.now (Err c.in-Err.reply) c.unload.new.self c.in-Err.ensures.out

pub returns-in-Ok-load-clause-counted_out : goal.returns-in-Ok-load-clause-counted_out
returns-in-Ok-load-clause-counted_out g c =
    out_counts g.D.Disk.state c.args.source.now (Ok c.in-Ok.cartridge) c.unload.new.self c.in-Ok.ensures.out

pub returns-in-Ok-load-clause-counted_in : goal.returns-in-Ok-load-clause-counted_in
returns-in-Ok-load-clause-counted_in g c =
    in_counts g.D.Disk.state c.args.destination.now c.in-Ok.cartridge (Ok tt) c.load.new.self
    c.in-Ok-load.ensures.taken

pub returns-in-Err-load-clause-counted_out : goal.returns-in-Err-load-clause-counted_out
returns-in-Err-load-clause-counted_out g c =
    ap (λ (b : BayState g.row.D.Denot). b.accepted) c.insert.ensures.inserted
    ∙ out_counts g.D.Disk.state c.args.source.now (Ok c.in-Ok.cartridge) c.unload.new.self c.in-Ok.ensures.out

pub returns-in-Err-load-clause-counted_in : goal.returns-in-Err-load-clause-counted_in
returns-in-Err-load-clause-counted_in g c =
    in_counts g.D.Disk.state c.args.destination.now c.in-Ok.cartridge
    (Err (c.in-Err-load.cartridge, c.in-Err-load.reply)) c.load.new.self c.in-Err-load.ensures.taken
