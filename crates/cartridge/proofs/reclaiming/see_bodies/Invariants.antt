use Rattle.std.proofs.Common.{◌<◌, ◌≤◌, ℕ}
use Rattle.std.specs.Prelude.{slice_index_or}
use Rattle.gate_journal.specs.State.{IsBodyAt}
use Rattle.cartridge.proofs.reclaiming.see_bodies.Given as goal

abbrev pub invariant-loop-frame : goal.invariant-loop-frame
invariant-loop-frame g l =
    (g.D.Disk.state l.journal.disk).honest → (frame : ℕ) → frame < l.frame
    → (1 ≤ (slice_index_or l.journal.extents frame (0, 0)).1)
    × IsBodyAt (g.D.Disk.state l.journal.disk).seen l.journal.front l.journal.bodies frame
    (slice_index_or l.journal.extents frame (0, 0))
