use Rattle.std.proofs.Common.{◌∷◌, []}
use Rattle.std.proofs.lemmas.Result.{err_from_is_err_and}
use Rattle.vtl_script.proofs.RunLemmas.{runs_on, phase_not_run}
use Rattle.vtl_script.proofs.scripts.run_items.Goals as goal

pub returns-in_err-run_item-clause-runs : goal.returns-in_err-run_item-clause-runs
returns-in_err-run_item-clause-runs g c =
    let runner = g.P.Runner in
    let laws = g.met.P.Runner in
    let exit = err_from_is_err_and c.from_residual.result c.from_residual.ensures.1 in
    rw (exit.1, exit.2) (phase_not_run runner.answers laws.answers_none laws.answers_on c.args.runner.now
    c.args.phase c.args.moved _ c.run_item.new.runner _ c.in_err-run_item.field-0.0
    c.in_err-run_item.ensures.runs)

pub returns-in-Some-clause-runs : goal.returns-in-Some-clause-runs
returns-in-Some-clause-runs g c =
    let runner = g.P.Runner in
    let laws = g.met.P.Runner in
    rw c.in-Some.is (runs_on runner.answers laws.answers_none laws.answers_on c.args.runner.now
    (c.args.phase ∷ []) (c.in-Some.moved ∷ []) _ _ _ c.run_item.new.runner c.run_item-in-Some.new.runner
    c.run_item-in-Some.result c.in_ok-run_item.ensures.runs c.run_item-in-Some.ensures.runs)
