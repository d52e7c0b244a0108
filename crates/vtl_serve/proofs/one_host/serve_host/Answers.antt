use Rattle.vtl_serve.proofs.OneHostLemmas.{host_answers}
use Rattle.vtl_serve.proofs.one_host.serve_host.Goals as goal

pub returns-clause-answers : goal.returns-clause-answers
returns-clause-answers g c =
    host_answers g.D.Disk.state c.args.served.now _ _ _ _ _ c.serve_requests.result c.serve_requests.ensures
