use Rattle.std.proofs.Common.{◌≡◌}
use Rattle.vtl_notes.proofs.noting.NotingReader.note.Given as goal

-- the reader below is as it was
abbrev pub invariant-loop-byte : goal.invariant-loop-byte
invariant-loop-byte g l = l.self.below ≡ l.fn.self.below
