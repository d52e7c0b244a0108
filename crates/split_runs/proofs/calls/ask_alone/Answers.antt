use Rattle.split_runs.proofs.StepLemmas.{alone_step}
use Rattle.split_runs.proofs.calls.ask_alone.Goals as goal

pub returns : goal.returns
returns g c =
    alone_step g.D.Disk.state c.args.front.now c.execute-answer.new.self _ c.execute-answer.result
    c.execute-answer.new.sent c.execute-answer.ensures.step c.known.ensures.keeps
