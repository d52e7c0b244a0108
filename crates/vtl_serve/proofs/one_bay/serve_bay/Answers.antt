use Rattle.vtl_serve.proofs.OneBayLemmas.{bay_answers}
use Rattle.vtl_serve.proofs.one_bay.serve_bay.Goals as goal

pub returns-clause-answers : goal.returns-clause-answers
returns-clause-answers g c =
    bay_answers g.D.Disk.state c.served_hosts_run.ensures c.args.served.now _ _ _ _ _ c.serve_requests.result
    c.serve_requests.ensures
