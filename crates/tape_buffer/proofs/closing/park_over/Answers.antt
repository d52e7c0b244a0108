use Rattle.std.proofs.Common.{◌∙◌}
use Rattle.tape_disk.specs.TwoDisks.{AreHonest}
use Rattle.tape_buffer.proofs.ClosingLemmas.{advances_after, parks_after}
use Rattle.tape_buffer.proofs.closing.park_over.Goals as goal

pub returns-in-Ok-clause-ok : goal.returns-in-Ok-clause-ok
returns-in-Ok-clause-ok g c =
    let stored = c.in-Ok.ensures in
    let shelved = c.shelve_over-in-Ok in
    let disk = g.D.Disk.state in
    let old = c.args.cartridge in (
      shelved.ensures.known,
      rw stored.answer.0 (shelved.ensures.frames ∙ stored.frame),
      parks_after disk g.met.D.Disk.is_disk old c.settle_over.new.cartridge c.args.pending.now
          c.settle_over.new.pending (AreHonest disk old.disks)
          (AreHonest disk c.settle_over.new.cartridge.disks) shelved.result stored.advances.honesty.0 stored.answer
          stored.stores
          shelved.ensures.parks,
      advances_after disk g.met.D.Disk.is_disk old c.settle_over.new.cartridge c.args.pending.now
          c.settle_over.new.pending shelved.result stored.advances shelved.ensures.advances,
    )
