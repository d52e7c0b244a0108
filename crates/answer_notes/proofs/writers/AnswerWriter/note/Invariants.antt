use Rattle.std.proofs.Common.{◌≡◌}
use Rattle.answer_notes.proofs.writers.AnswerWriter.note.Given as goal

-- the writer below is as it was
abbrev pub invariant-loop-byte : goal.invariant-loop-byte
invariant-loop-byte g l = l.self.below ≡ l.fn.self.below
