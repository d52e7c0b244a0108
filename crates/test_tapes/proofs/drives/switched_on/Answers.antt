use Rattle.std.proofs.Common.{subst, sym}
use Rattle.tape_buffer.specs.Moves.{IsHere, buffer_below}
use Rattle.tape_buffer.specs.State.{BufferState, state_of}
use Rattle.test_tapes.proofs.HandLemmas.{here_first}
use Rattle.test_tapes.proofs.drives.switched_on.Goals as goal

pub power_on-requires-clause-hand : goal.power_on-requires-clause-hand
power_on-requires-clause-hand g c =
    subst (λ (b : BufferState g.row.D.Denot). IsHere b.held) (sym c.parked-medium.ensures) tt

pub invariant_of-result : goal.invariant_of-result
invariant_of-result g c =
    here_first (buffer_below g.D.Disk.state) (state_of g.D.Disk.state) c.parked-medium.result _ _ c.in-Ok.drive
    (subst (λ (b : BufferState g.row.D.Denot). IsHere b.held) (sym c.parked-medium.ensures) tt)
    c.in-Ok.ensures.switched
