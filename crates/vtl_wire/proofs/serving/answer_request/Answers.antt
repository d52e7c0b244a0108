use Rattle.vtl_wire.proofs.ServeLemmas.{answered_by}
use Rattle.vtl_wire.proofs.serving.answer_request.Goals as goal

pub returns : goal.returns
returns g c =
    answered_by g.S.Server.is_taken g.S.Server.answers g.S.Server.lacks c.args.server.now c.args.request
    c.in_ok-answer.answer _ _ c.serve.new.self c.write_if_fits.result c.in_ok-answer.ensures.ok
    c.write_if_fits.ensures.ok c.write_if_fits.ensures.err c.write_if_fits.ensures.fits c.write_if_fits.ensures.unfit
    c.write_if_fits.ensures.fault
