use Rattle.std.proofs.Common.{◌∙◌, Ok, Err, ap}
use Rattle.scsi_sense.specs.Replies.{good_with}
use Rattle.bay_moves.proofs.CarriedLemmas.{out_carries, out_refused, out_stays}
use Rattle.bay_moves.proofs.CountLemmas.{out_counts}
use Rattle.bay_moves.proofs.lent.out_of_drive.Goals as goal

pub returns-in-Some-clause-moved : goal.returns-in-Some-clause-moved
returns-in-Some-clause-moved g c bays named =
    out_refused g.D.Disk.state c.args.slots.now bays c.args.from c.args.to c.args.source.now named c.drive_end.result
    c.end_beside.result c.in-Some.reply c.drive_end.ensures c.end_beside.ensures c.in-Some.ensures

pub returns-in-Err-clause-moved : goal.returns-in-Err-clause-moved
returns-in-Err-clause-moved g c bays named =
    out_stays g.D.Disk.state c.args.slots.now bays c.args.from c.args.to c.args.source.now named c.drive_end.result
    c.end_beside.result c.unload.new.self c.in-Err.reply c.drive_end.ensures c.end_beside.ensures c.in_default.ensures
    c.in-Err.ensures.out c.in-Err.ensures.awake

pub returns-clause-moved : goal.returns-clause-moved
returns-clause-moved g c bays named =
    out_carries g.D.Disk.state c.args.slots.now bays c.args.from c.args.to c.args.source.now named c.drive_end.result
    c.end_beside.result c.unload.new.self c.fill.new.slots c.in-Ok.cartridge c.good.result c.drive_end.ensures
    c.end_beside.ensures c.in_default.ensures c.in-Ok.ensures.out c.in-Ok.ensures.awake c.fill.ensures
    (c.good.ensures ∙ ap good_with c.new.ensures)

pub returns-in-Err-clause-counted : goal.returns-in-Err-clause-counted
returns-in-Err-clause-counted g c =
    out_counts g.D.Disk.state c.args.source.now (Err c.in-Err.reply) c.unload.new.self c.in-Err.ensures.out

pub returns-clause-counted : goal.returns-clause-counted
returns-clause-counted g c =
    out_counts g.D.Disk.state c.args.source.now (Ok c.in-Ok.cartridge) c.unload.new.self c.in-Ok.ensures.out
