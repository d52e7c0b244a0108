use Rattle.std.proofs.Common.{◌≡◌, true}
use Rattle.vtl_script.specs.Inner.Reading.{work_left}
use Rattle.vtl_script.specs.Inner.ReadItem.{shows_phase}
use Rattle.vtl_script.proofs.PhaseLemmas.{IsGathered}
use Rattle.vtl_script.proofs.phases.read_phase.Given as goal

-- the commands so far are those of the lines so far, and nothing was read where the first bytes show the phase's end
abbrev pub invariant-loop-lines : goal.invariant-loop-lines
invariant-loop-lines g l =
    IsGathered (g.P.Runner.is_configured l.runner) (g.R.Read.remaining l.fn.reader) l.fn.line_reader
    (g.R.Read.remaining l.reader) l.line_reader l.lines.items
    × (shows_phase (g.P.Runner.is_configured l.runner) l.fn.line_reader.unread ≡ true
    → (shows_phase (g.P.Runner.is_configured l.runner) l.line_reader.unread ≡ true) × (l.reader ≡ l.fn.reader))

abbrev pub decreases-loop-lines : goal.decreases-loop-lines
decreases-loop-lines g l = work_left l.line_reader
