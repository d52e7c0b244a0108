use Rattle.std.proofs.Common.{Err, ap, ◌∙◌}
use Rattle.std.proofs.lemmas.Result.{err_from_is_err_and}
use Rattle.vtl_script.proofs.ItemLemmas.{read_failed, finish_first, items_done}
use Rattle.vtl_script.proofs.PhaseLemmas.{takes_lines}
use Rattle.vtl_script.proofs.scripts.run_next.Goals as goal

pub returns-in_err-phase-clause-runs : goal.returns-in_err-phase-clause-runs
returns-in_err-phase-clause-runs g c =
    let runner = g.P.Runner in
    let laws = g.met.P.Runner in
    let exit = err_from_is_err_and c.from_residual.result c.from_residual.ensures.1 in
    rw (exit.1, exit.2) (read_failed (runner.is_configured c.args.runner.now) runner.answers laws.answers_none
    laws.answers_empty laws.answers_on c.args.line_reader.now c.args.runner.now _
    (g.R.Read.remaining c.read_items.new.reader) _ c.in_err-phase.field-0.0
    c.in_err-phase.ensures.fault (λ number is. c.read_items.ensures.refused number (c.in_err-phase.was ∙ ap Err is)))

pub returns-in_err-run_items-clause-runs : goal.returns-in_err-run_items-clause-runs
returns-in_err-run_items-clause-runs g c =
    let runner = g.P.Runner in
    let laws = g.met.P.Runner in
    let exit = err_from_is_err_and c.from_residual-in_err-run_items.result c.from_residual-in_err-run_items.ensures.1 in
    rw (exit.1, exit.2) (finish_first (runner.is_configured c.args.runner.now) runner.answers laws.answers_none
    laws.answers_empty laws.answers_on c.args.line_reader.now c.read_items.new.line_reader c.args.runner.now _
    (g.R.Read.remaining c.read_items.new.reader) _ c.run_items.new.runner _ _ _ c.in_err-run_items.field-0.0
    c.in_ok-phase.ensures.ok.reads c.in_err-run_items.ensures.runs)

pub returns-clause-runs : goal.returns-clause-runs
returns-clause-runs g c =
    let runner = g.P.Runner in
    let laws = g.met.P.Runner in
    items_done (runner.is_configured c.args.runner.now) runner.answers laws.answers_none laws.answers_empty
    laws.answers_on c.args.line_reader.now c.read_items.new.line_reader c.args.runner.now _
    (g.R.Read.remaining c.read_items.new.reader) _ (g.W.Write.contents c.run_items.new.writer) c.run_items.new.runner
    c.in_ok-phase.field-0.is_last _ c.in_ok-phase.ensures.ok.reads c.in_ok-run_items.ensures.runs

pub returns-in_err-phase-clause-past : goal.returns-in_err-phase-clause-past
returns-in_err-phase-clause-past g c = λ other.
    let exit = err_from_is_err_and c.from_residual.result c.from_residual.ensures.1 in
    c.in_err-phase.ensures.past (λ is. other (exit.1 ∙ ap Err (exit.2 ∙ is)))

pub returns-in_err-run_items-clause-past : goal.returns-in_err-run_items-clause-past
returns-in_err-run_items-clause-past g c = λ other. takes_lines _ _ _ c.args.line_reader.now _ _ _
    c.in_ok-phase.ensures.ok.reads

pub returns-clause-past : goal.returns-clause-past
returns-clause-past g c = λ other. takes_lines _ _ _ c.args.line_reader.now _ _ _ c.in_ok-phase.ensures.ok.reads
