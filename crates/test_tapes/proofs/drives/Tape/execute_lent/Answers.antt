use Rattle.drive_commands.specs.Execute.{is_device_fault}
use Rattle.tape_buffer.specs.Moves.{buffer_below}
use Rattle.test_tapes.proofs.HandLemmas.{here_still}
use Rattle.test_tapes.proofs.drives.Tape.execute_lent.Goals as goal

pub execute_lent-requires : goal.execute_lent-requires
execute_lent-requires g c = record { hand = λ needs. c.self.invariant }

pub invariant_of-self : goal.invariant_of-self
invariant_of-self g c =
    here_still (buffer_below g.D.Disk.state) c.self.inside.drive.bay c.execute_lent.new.self.bay
    c.execute_lent.ensures.step.step.taken.made.changes (is_device_fault c.execute_lent.ensures.step.step.answer)
    c.self.invariant c.execute_lent.ensures.step.step.taken.advances
