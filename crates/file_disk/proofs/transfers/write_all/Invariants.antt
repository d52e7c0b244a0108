use Rattle.std.proofs.Common.{◌+◌, ◌-◌, ◌≤◌, length}
use Rattle.file_disk.specs.RawFile.{AddsRange, IsAsHonest, ReachesRange, ReachesStill}
use Rattle.file_disk.specs.Inner.Transfers.{HasTransferred}
use Rattle.file_disk.specs.declared.transfers.TheConstants.{CALLS}
use Rattle.file_disk.proofs.transfers.write_all.Given as goal

-- the bytes so far were written
abbrev pub invariant-loop-left : goal.invariant-loop-left
invariant-loop-left g l =
    IsAsHonest (g.F.RawFile.state l.fn.file) (g.F.RawFile.state l.file)
    × (l.left ≤ CALLS) × (l.done ≤ length l.bytes)
    × ((g.F.RawFile.state l.fn.file).honest → HasTransferred (CALLS - l.left) l.at l.done l.bytes
    (g.F.RawFile.state l.fn.file) (g.F.RawFile.state l.file))
    × ((g.F.RawFile.state l.fn.file).honest →
    ReachesStill (g.F.RawFile.passed_over l.fn.file) (g.F.RawFile.passed_over l.file))
    × ((g.F.RawFile.state l.fn.file).honest → ReachesRange l.at (l.at + l.done) (g.F.RawFile.passed_over l.file))
    × ((g.F.RawFile.state l.fn.file).honest →
    AddsRange l.at (l.at + length l.bytes) (g.F.RawFile.unsynced l.fn.file) (g.F.RawFile.unsynced l.file))

abbrev pub decreases-loop-left : goal.decreases-loop-left
decreases-loop-left g l = l.left
