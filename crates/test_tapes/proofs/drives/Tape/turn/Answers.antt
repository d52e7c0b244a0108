use Rattle.std.proofs.Common.{[]}
use Rattle.volume_core.specs.Medium.{turn_met_fault}
use Rattle.tape_buffer.specs.Moves.{buffer_below}
use Rattle.test_tapes.proofs.HandLemmas.{here_still}
use Rattle.test_tapes.proofs.drives.Tape.turn.Goals as goal

pub invariant_of-self : goal.invariant_of-self
invariant_of-self g c =
    here_still (buffer_below g.D.Disk.state) c.self.inside.drive.bay c.turn.new.self.bay []
    (turn_met_fault c.turn.result) c.self.invariant c.turn.ensures.advances
