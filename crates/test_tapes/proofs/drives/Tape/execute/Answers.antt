use Rattle.drive_commands.specs.Execute.{is_device_fault}
use Rattle.tape_buffer.specs.Moves.{buffer_below}
use Rattle.test_tapes.proofs.HandLemmas.{here_still}
use Rattle.test_tapes.proofs.drives.Tape.execute.Goals as goal

pub execute-requires : goal.execute-requires
execute-requires g c = record { hand = λ needs. c.self.invariant }

pub invariant_of-self : goal.invariant_of-self
invariant_of-self g c =
    here_still (buffer_below g.D.Disk.state) c.self.inside.drive.bay c.execute.new.self.bay
    c.execute.ensures.step.taken.made.changes
    (is_device_fault c.execute.ensures.step.answer) c.self.invariant c.execute.ensures.step.taken.advances
