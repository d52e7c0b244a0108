use Rattle.std.proofs.Common.{◌≡◌, ◌-◌, length}
use Rattle.volume_copy.specs.Entries.{entries_from}
use Rattle.volume_copy.proofs.cursor.Cursor.settled.Given as goal

abbrev pub invariant-loop-cursor : goal.invariant-loop-cursor
invariant-loop-cursor l =
    entries_from l.index l.cursor.part l.cursor.at ≡ entries_from l.index l.fn.self.part l.fn.self.at

abbrev pub decreases-loop-cursor : goal.decreases-loop-cursor
decreases-loop-cursor l = length l.index - l.cursor.part
