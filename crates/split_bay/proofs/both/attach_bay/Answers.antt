use Rattle.std.proofs.Common.{subst, sym, ◌∙◌}
use Rattle.drive_commands.specs.declared.bays.Bay.{Bay}
use Rattle.tape_buffer.specs.State.{BufferState}
use Rattle.split_bay.specs.Both.{AttachesIn}
use Rattle.split_bay.proofs.both.attach_bay.Goals as goal

pub returns-in-Empty-clause-attaches : goal.returns-in-Empty-clause-attaches
returns-in-Empty-clause-attaches g c =
    subst (λ (b : Bay (BufferState g.row.D.Denot)).
    AttachesIn g.D.Disk.state c.args.sending.now.sent c.args.receiving.now.received c.args.disks.now b b)
    (sym c.in-Empty.is) (sym c.take.ensures.value ∙ c.attach_none.ensures.disks, sym c.attach_none.ensures.level)
