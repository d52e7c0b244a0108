use Rattle.std.proofs.Common.{sym, ◌∙◌}
use Rattle.std.proofs.lemmas.Result.{err_from_is_err_and}
use Rattle.vtl_wire.proofs.ServeLemmas.{noted_answer, served_next}
use Rattle.vtl_wire.proofs.serving.serve_next.Goals as goal

pub returns-in_err-answer_request-clause-noted : goal.returns-in_err-answer_request-clause-noted
returns-in_err-answer_request-clause-noted g c =
    let exit = err_from_is_err_and c.from_residual-in_err-answer_request.result
    c.from_residual-in_err-answer_request.ensures.1 in
    rw (exit.1, exit.2, c.in_ok-request.ensures.well) (noted_answer g.S.Server.is_taken g.S.Server.answers
    g.S.Server.lacks c.args.server.now c.answer_request.new.server c.in-Some.request _ _ c.args.frames.now.failed
    c.in_err-answer_request.field-0.0 c.in_err-answer_request.ensures)

pub returns-in_err-answer_request-clause-serves : goal.returns-in_err-answer_request-clause-serves
returns-in_err-answer_request-clause-serves g c =
    let exit = err_from_is_err_and c.from_residual-in_err-answer_request.result
    c.from_residual-in_err-answer_request.ensures.1 in
    rw (exit.1, exit.2) (served_next g.S.Server.is_taken g.S.Server.answers g.S.Server.lacks c.args.frames.now.frames
    c.args.server.now _ _ c.next.new.self.frames c.answer_request.new.server _ _ c.in-Some.request
    c.in_err-answer_request.field-0.0 (rw c.in-Some.is at c.in_ok-request.ensures.ok)
    (sym c.takes.ensures ∙ c.if-not-takes.false) c.in_err-answer_request.ensures)
