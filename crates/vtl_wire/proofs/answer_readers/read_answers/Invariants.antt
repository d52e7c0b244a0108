use Rattle.vtl_wire.specs.AnswerReads.{IsAnswerPart, LacksAnswer}
use Rattle.vtl_wire.specs.Answers.{answer_frames}
use Rattle.vtl_wire.proofs.ReaderLemmas.{AreRead}
use Rattle.vtl_wire.proofs.answer_readers.read_answers.Given as goal

-- the answers so far were read, and counted
abbrev pub invariant-loop : goal.invariant-loop
invariant-loop g l =
    AreRead answer_frames IsAnswerPart LacksAnswer
    (g.R.Read.remaining l.fn.reader) (g.R.Read.remaining l.reader) l.answers.items l.frames.frames l.counter
