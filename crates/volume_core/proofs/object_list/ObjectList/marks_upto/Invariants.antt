use Rattle.std.proofs.Common.{◌≡◌, ◌≤◌, take}
use Rattle.volume_core.specs.Volume.{marks_in}
use Rattle.volume_core.proofs.object_list.ObjectList.marks_upto.Given as goal

-- the marks so far, no more than the objects so far
abbrev pub invariant-loop-at : goal.invariant-loop-at
invariant-loop-at l = record {
  so_far : l.marks ≡ marks_in (take l.at l.self);
  few : l.marks ≤ l.at;
}
