use Rattle.tape_buffer.specs.State.{open_buffer}
use Rattle.tape_buffer.proofs.CoreLemmas.{rests}
use Rattle.tape_buffer.proofs.FrameLemmas.{way_as_it_is, way_once_stored}
use Rattle.tape_buffer.proofs.adding.make_way.Goals as goal

pub returns-then-not-is_full_for-clause-advances :
    goal.returns-then-not-is_full_for-clause-advances
returns-then-not-is_full_for-clause-advances g c =
    rests g.D.Disk.state g.met.D.Disk.is_disk
    (open_buffer c.args.cartridge.now c.args.pending.now)

pub returns-then-not-is_full_for-clause-frames :
    goal.returns-then-not-is_full_for-clause-frames
returns-then-not-is_full_for-clause-frames g c =
    way_as_it_is c.is_full_for.result c.args.cartridge.now.contents.frames c.args.pending.now c.args.change.now
    c.is_full_for.ensures.1 c.if-not-is_full_for.true

pub returns-in-Ok-clause-frames : goal.returns-in-Ok-clause-frames
returns-in-Ok-clause-frames g c =
    way_once_stored c.is_full_for.result c.args.cartridge.now.contents.frames
    c.settle_over.new.cartridge.contents.frames c.args.pending.now c.settle_over.new.pending c.args.change.now
    c.is_full_for.ensures.0 c.if-not-is_full_for.false c.in-Ok.ensures.frame c.in-Ok.ensures.answer.1
