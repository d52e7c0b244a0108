use Rattle.std.proofs.Common.{arith, subst, sym, ◌∙◌}
use Rattle.std.proofs.lemmas.Result.{err_from_is_err_and}
use Rattle.vtl_wire.specs.declared.faults.WireFault.TheVariants.{BadFrame}
use Rattle.vtl_wire.specs.Reads.{IsHeaderLong, LacksData, MissesRequest}
use Rattle.vtl_wire.specs.Requests.{request_frames}
use Rattle.vtl_wire.proofs.ReaderLemmas.{missed_all, missed_room, one_error, read_more, read_refused}
use Rattle.vtl_wire.proofs.request_readers.read_requests.Goals as goal

pub returns-in_err-request-clause-refused : goal.returns-in_err-request-clause-refused
returns-in_err-request-clause-refused g c number bad =
    let exit = err_from_is_err_and c.from_residual.result c.from_residual.ensures.1 in
    let fault = sym exit.2 ∙ one_error c.from_residual.result exit.0 (BadFrame number) exit.1 bad in
    read_refused request_frames IsHeaderLong LacksData _ _ _ c.loop.requests.items c.loop.frames.frames c.loop.counter
    number (omega (arith, c.loop-test.true)) c.loop.invariant
    (subst
    (MissesRequest (g.R.Read.remaining c.loop.reader) (g.R.Read.remaining c.next.new.reader) c.loop.frames.frames)
    fault c.in_err-request.ensures.err)

pub returns-in_err-request-clause-missed : goal.returns-in_err-request-clause-missed
returns-in_err-request-clause-missed g c =
    let exit = err_from_is_err_and c.from_residual.result c.from_residual.ensures.1 in
    rw (exit.1, exit.2)
    (missed_all request_frames IsHeaderLong LacksData _ _ _ c.loop.requests.items c.loop.frames.frames c.loop.counter
    c.in_err-request.field-0.0
    c.loop.invariant c.in_err-request.ensures.err)

pub returns-in_err-push-in-Some-clause-missed : goal.returns-in_err-push-in-Some-clause-missed
returns-in_err-push-in-Some-clause-missed g c =
    let exit = err_from_is_err_and c.from_residual-in_err-push-in-Some.result
    c.from_residual-in_err-push-in-Some.ensures.1 in
    rw (exit.1, exit.2)
    (missed_room request_frames IsHeaderLong LacksData _ _ _ c.loop.requests.items c.loop.frames.frames c.loop.counter
    c.in-Some.request c.loop.invariant
    (rw c.in-Some.is at c.in_ok-request.ensures.ok))

pub loop-preserved : goal.loop-preserved
loop-preserved g c =
    let read = rw c.in-Some.is at c.in_ok-request.ensures.ok in
    let counted = rw c.in-Some.is at c.in_ok-request.ensures.count in
    let pushed = c.in_ok-push-in-Some.ensures.items in
    rw (pushed, counted)
    (read_more request_frames IsHeaderLong LacksData _ _ _ c.loop.requests.items c.loop.frames.frames c.loop.counter
    c.in-Some.request
    (omega (arith, c.loop-test.true)) c.loop.invariant read)
