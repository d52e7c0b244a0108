use Rattle.std.proofs.Common.{◌-◌, arith}
use Rattle.tape_buffer.proofs.LentLemmas.{advances_lent, pending_lent, roomy_new}
use Rattle.tape_buffer.proofs.lending.allow_over.Goals as goal

pub returns-clause-held : goal.returns-clause-held
returns-clause-held g c =
    pending_lent c.args.cartridge.now c.reserve_all-records.new.cartridge c.args.pending.now
    c.reserve_all-records.ensures.same c.requires c.reserve_all-records.ensures.grows

pub returns-clause-roomy : goal.returns-clause-roomy
returns-clause-roomy g c =
    let new = c.reserve_all-records.new.cartridge in
    let told = c.reserve_all-records.ensures in
    roomy_new c.args.cartridge.now new c.args.pending.now told.same
    (record {
      records = c.reserve_all-records.result;
      bytes = c.bytes_left-bytes.result;
      room = c.room.result - c.frame_bytes.result;
    })
    c.parts.result c.within.ensures
    (pending_lent c.args.cartridge.now new c.args.pending.now told.same c.requires told.grows) told.enough
    c.parts.ensures.parts c.parts.ensures.entries told.records c.bytes_left-bytes.ensures
    (omega (arith, c.room.ensures, c.frame_bytes.ensures, c.requires.fits))

pub returns-clause-advances : goal.returns-clause-advances
returns-clause-advances g c =
    advances_lent c.args.cartridge.now c.reserve_all-records.new.cartridge c.args.pending.now
    c.reserve_all-records.ensures.same g.D.Disk.state g.met.D.Disk.is_disk
