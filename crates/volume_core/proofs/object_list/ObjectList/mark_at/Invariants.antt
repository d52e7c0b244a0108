use Rattle.std.proofs.Common.{◌≡◌, ◌+◌, take}
use Rattle.volume_core.specs.Volume.{marks_in}
use Rattle.volume_core.proofs.object_list.ObjectList.mark_at.Given as goal

-- the marks so far, and those that are to be passed
abbrev pub invariant-loop-at : goal.invariant-loop-at
invariant-loop-at l = (marks_in (take l.at l.self) + l.left ≡ l.k)
