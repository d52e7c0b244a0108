use Rattle.tape_buffer.specs.Invariants.{buffer_of}
use Rattle.tape_buffer.specs.State.{state_of}
use Rattle.tape_buffer.proofs.aways.noted_of.Given as goal

abbrev pub ghost-by_held : goal.ghost-by_held
ghost-by_held g a = state_of g.D.Disk.state (buffer_of a._held.now)
