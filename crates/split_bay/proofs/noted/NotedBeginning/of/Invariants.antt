use Rattle.std.specs.Prelude.{option_map}
use Rattle.tape_buffer.specs.State.{state_of}
use Rattle.split_bay.proofs.noted.NotedBeginning.of.Given as goal

abbrev pub ghost-by_medium : goal.ghost-by_medium
ghost-by_medium g a = record {
  seen = option_map (λ m. state_of g.D.Disk.state m.buffer) a._medium.now;
  left = a._left.now;
  bytes = a._bytes.now;
  room = a._room.now;
}
