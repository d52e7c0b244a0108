use Rattle.std.proofs.lemmas.Result.{err_from_is_err_and}
use Rattle.vtl_script.proofs.RunLemmas.{item_not_run, item_run}
use Rattle.vtl_script.proofs.scripts.run_item.Goals as goal

pub returns-in_err-replies-clause-runs : goal.returns-in_err-replies-clause-runs
returns-in_err-replies-clause-runs g c =
    let runner = g.P.Runner in
    let laws = g.met.P.Runner in
    let exit = err_from_is_err_and c.from_residual.result c.from_residual.ensures.1 in
    rw (exit.1, exit.2) (item_not_run runner.answers laws.answers_none laws.answers_on c.args.runner.now
    c.args.item.now _ c.run.new.self c.in_err-replies.ensures.err)

pub returns-clause-runs : goal.returns-clause-runs
returns-clause-runs g c =
    let runner = g.P.Runner in
    let laws = g.met.P.Runner in
    let printed = c.print_replies.ensures in
    item_run runner.answers laws.answers_none laws.answers_on c.args.runner.now c.args.item.now _ c.run.new.self
    (g.W.Write.contents c.print_replies.new.writer) c.in_ok-replies.replies.items c.print_replies.result
    c.in_ok-replies.ensures.ok (rw c.as_slice.ensures.value at printed.ok) printed.fault
    (rw c.as_slice.ensures.value at printed.part)
