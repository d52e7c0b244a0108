use Rattle.std.proofs.Common.{◌≤◌}
use Rattle.file_disk.specs.RawFile.{AddsRange, ReachesRange}
use Rattle.file_disk.specs.Inner.Rested.{Rested}
use Rattle.file_disk.proofs.again.write_again.Given as goal

-- the bytes so far were written again
abbrev pub invariant-loop-left : goal.invariant-loop-left
invariant-loop-left g l = record {
  rested : Rested g.F.RawFile.state g.F.RawFile.passed_over g.F.RawFile.unsynced l.fn.file l.file;
  further : l.from ≤ l.at;
  again : (g.F.RawFile.state l.fn.file).honest → ReachesRange l.from l.at (g.F.RawFile.passed_over l.file);
  adds : (g.F.RawFile.state l.fn.file).honest →
      AddsRange l.from l.to (g.F.RawFile.unsynced l.fn.file) (g.F.RawFile.unsynced l.file);
}

abbrev pub decreases-loop-left : goal.decreases-loop-left
decreases-loop-left g l = l.left
