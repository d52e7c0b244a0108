use Rattle.std.proofs.Common.{Err, Ok, [], refl, ap, ◌∙◌, arith}
use Rattle.std.proofs.lemmas.Result.{err_from_is_err_and}
use Rattle.vtl_script.specs.Inner.Reading.{unbegun}
use Rattle.vtl_script.specs.declared.faults.ScriptFault.TheVariants.{NoMemory}
use Rattle.vtl_script.proofs.ItemLemmas.{finish_short}
use Rattle.vtl_script.proofs.ScriptLemmas.{begin, goes_on, finish_on, runs_script}
use Rattle.vtl_script.proofs.ReadingLemmas.{takes_on, consumes_none, err_same, ok_other}
use Rattle.vtl_script.proofs.scripts.run_script.Goals as goal

pub returns-in_err-text-clause-runs : goal.returns-in_err-text-clause-runs
returns-in_err-text-clause-runs g c =
    let runner = g.P.Runner in
    let laws = g.met.P.Runner in
    let exit = err_from_is_err_and c.from_residual.result c.from_residual.ensures.1 in
    rw (exit.1, exit.2) (runs_script (runner.is_configured c.args.runner.now) runner.answers laws.answers_none
    laws.answers_empty laws.answers_on c.args.runner.now _ _ c.args.runner.now _ (Err NoMemory)
    (finish_short (runner.is_configured c.args.runner.now) runner.answers laws.answers_none laws.answers_empty
    laws.answers_on unbegun c.args.runner.now _ _))

pub returns-in_err-text-clause-past : goal.returns-in_err-text-clause-past
returns-in_err-text-clause-past g c = λ other. ([], consumes_none _, omega arith)

pub loop-text-init : goal.loop-text-init
loop-text-init g c =
    let runner = g.P.Runner in
    let laws = g.met.P.Runner in
    rw c.new-line_reader.ensures (
      c.in_ok-text.ensures,
      record {
        goes = begin (runner.is_configured c.args.runner.now) runner.answers laws.answers_none laws.answers_empty
            laws.answers_on unbegun c.args.runner.now _ _;
        same = refl;
      },
      c.requires,
    )

pub returns-in_err-run_next-clause-runs : goal.returns-in_err-run_next-clause-runs
returns-in_err-run_next-clause-runs g c =
    let runner = g.P.Runner in
    let laws = g.met.P.Runner in
    let exit = err_from_is_err_and c.from_residual-in_err-run_next.result c.from_residual-in_err-run_next.ensures.1 in
    let last = rw c.loop-text.invariant.1.same at c.in_err-run_next.ensures.runs in
    rw (exit.1, exit.2) (runs_script (runner.is_configured c.args.runner.now) runner.answers laws.answers_none
    laws.answers_empty laws.answers_on c.args.runner.now _ _ c.run_next.new.runner _
    (Err c.in_err-run_next.field-0.0)
    (finish_on (runner.is_configured c.args.runner.now) runner.answers laws.answers_none laws.answers_empty
    laws.answers_on unbegun c.loop-text.line_reader c.args.runner.now c.loop-text.runner
    c.run_next.new.runner _ _ _ _ _ (Err c.in_err-run_next.field-0.0) c.loop-text.invariant.1.goes last))

pub loop-text-preserved : goal.loop-text-preserved
loop-text-preserved g c =
    let runner = g.P.Runner in
    let laws = g.met.P.Runner in
    let more = rw (c.if-branch.true, c.loop-text.invariant.1.same) at c.in_ok-run_next.ensures.runs in (
      c.in_ok-run_next.ensures.text,
      record {
        goes = goes_on (runner.is_configured c.args.runner.now) runner.answers laws.answers_none laws.answers_empty
            laws.answers_on unbegun c.loop-text.line_reader c.run_next.new.line_reader c.args.runner.now
            c.loop-text.runner c.run_next.new.runner _ _ _ _ _ _ c.loop-text.invariant.1.goes more;
        same = c.run_next.ensures.same ∙ c.loop-text.invariant.1.same;
      },
      c.run_next.ensures.ready,
    )

pub returns-clause-runs : goal.returns-clause-runs
returns-clause-runs g c =
    let runner = g.P.Runner in
    let laws = g.met.P.Runner in
    let last = rw (c.if-branch.false, c.loop-text.invariant.1.same) at c.in_ok-run_next.ensures.runs in
    runs_script (runner.is_configured c.args.runner.now) runner.answers laws.answers_none laws.answers_empty
    laws.answers_on c.args.runner.now _ _ c.run_next.new.runner _ (Ok tt)
    (finish_on (runner.is_configured c.args.runner.now) runner.answers laws.answers_none laws.answers_empty
    laws.answers_on unbegun c.loop-text.line_reader c.args.runner.now c.loop-text.runner
    c.run_next.new.runner _ _ _ _ _ (Ok tt) c.loop-text.invariant.1.goes last)

pub returns-in_err-run_next-clause-past : goal.returns-in_err-run_next-clause-past
returns-in_err-run_next-clause-past g c = λ other.
    let exit = err_from_is_err_and c.from_residual-in_err-run_next.result c.from_residual-in_err-run_next.ensures.1 in
    let goes = c.loop-text.invariant.1.goes in
    takes_on _ _ _ 0 c.loop-text.line_reader.bytes goes.read goes.taken goes.bytes
    (c.run_next.ensures.past (λ is. other
    (exit.1 ∙ ap Err (exit.2 ∙ err_same c.run_next.result _ _ c.in_err-run_next.was is))))

pub returns-clause-past : goal.returns-clause-past
returns-clause-past g c = λ other.
    let goes = c.loop-text.invariant.1.goes in
    takes_on _ _ _ 0 c.loop-text.line_reader.bytes goes.read goes.taken goes.bytes
    (c.run_next.ensures.past (λ is. ok_other c.run_next.result _ _ c.in_ok-run_next.was is))
