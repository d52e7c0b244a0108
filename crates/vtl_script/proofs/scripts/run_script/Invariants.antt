use Rattle.std.proofs.Common.{◌≡◌, []}
use Rattle.vtl_script.specs.Inner.Reading.{work_left}
use Rattle.vtl_script.proofs.ScriptLemmas.{IsRunning}
use Rattle.vtl_script.proofs.scripts.run_script.Given as goal

-- the phases so far were run and answered, no text is held, and the runner may run more
abbrev pub invariant-loop-text : goal.invariant-loop-text
invariant-loop-text g l =
    (l.text ≡ []) × IsRunning g.P.Runner.is_configured g.P.Runner.answers l.fn.runner (g.R.Read.remaining l.fn.reader)
    (g.W.Write.contents l.fn.writer) l.line_reader l.runner (g.R.Read.remaining l.reader)
    (g.W.Write.contents l.writer) × g.P.Runner.is_ready l.runner

abbrev pub decreases-loop-text : goal.decreases-loop-text
decreases-loop-text g l = work_left l.line_reader
