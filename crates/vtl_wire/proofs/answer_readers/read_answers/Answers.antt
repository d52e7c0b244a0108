use Rattle.std.proofs.Common.{arith, subst, sym, ◌∙◌}
use Rattle.std.proofs.lemmas.Result.{err_from_is_err_and}
use Rattle.vtl_wire.specs.declared.faults.WireFault.TheVariants.{BadFrame}
use Rattle.vtl_wire.specs.AnswerReads.{IsAnswerPart, LacksAnswer, MissesAnswer}
use Rattle.vtl_wire.specs.Answers.{answer_frames}
use Rattle.vtl_wire.proofs.ReaderLemmas.{missed_all, missed_room, one_error, read_more, read_refused}
use Rattle.vtl_wire.proofs.answer_readers.read_answers.Goals as goal

pub returns-in_err-answer-clause-refused : goal.returns-in_err-answer-clause-refused
returns-in_err-answer-clause-refused g c number bad =
    let exit = err_from_is_err_and c.from_residual.result c.from_residual.ensures.1 in
    let fault = sym exit.2 ∙ one_error c.from_residual.result exit.0 (BadFrame number) exit.1 bad in
    read_refused answer_frames IsAnswerPart LacksAnswer _ _ _ c.loop.answers.items c.loop.frames.frames c.loop.counter
    number (omega (arith, c.loop-test.true)) c.loop.invariant
    (subst
    (MissesAnswer (g.R.Read.remaining c.loop.reader) (g.R.Read.remaining c.next.new.reader) c.loop.frames.frames)
    fault c.in_err-answer.ensures.err)

pub returns-in_err-answer-clause-missed : goal.returns-in_err-answer-clause-missed
returns-in_err-answer-clause-missed g c =
    let exit = err_from_is_err_and c.from_residual.result c.from_residual.ensures.1 in
    rw (exit.1, exit.2)
    (missed_all answer_frames IsAnswerPart LacksAnswer _ _ _ c.loop.answers.items c.loop.frames.frames c.loop.counter
    c.in_err-answer.field-0.0
    c.loop.invariant c.in_err-answer.ensures.err)

pub returns-in_err-push-in-Some-clause-missed : goal.returns-in_err-push-in-Some-clause-missed
returns-in_err-push-in-Some-clause-missed g c =
    let exit = err_from_is_err_and c.from_residual-in_err-push-in-Some.result
    c.from_residual-in_err-push-in-Some.ensures.1 in
    rw (exit.1, exit.2)
    (missed_room answer_frames IsAnswerPart LacksAnswer _ _ _ c.loop.answers.items c.loop.frames.frames c.loop.counter
    c.in-Some.answer c.loop.invariant
    (rw c.in-Some.is at c.in_ok-answer.ensures.ok))

pub loop-preserved : goal.loop-preserved
loop-preserved g c =
    let read = rw c.in-Some.is at c.in_ok-answer.ensures.ok in
    let counted = rw c.in-Some.is at c.in_ok-answer.ensures.count in
    let pushed = c.in_ok-push-in-Some.ensures.items in
    rw (pushed, counted)
    (read_more answer_frames IsAnswerPart LacksAnswer _ _ _ c.loop.answers.items c.loop.frames.frames c.loop.counter
    c.in-Some.answer
    (omega (arith, c.loop-test.true)) c.loop.invariant read)
