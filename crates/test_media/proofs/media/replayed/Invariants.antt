use Rattle.std.proofs.Common.{◌≡◌, drop}
use Rattle.volume_core.specs.Volume.{AllApply, after, empty_volume}
use Rattle.test_media.proofs.media.replayed.Given as goal

-- the changes that are left apply, and lead to the same volume as all of them
abbrev pub invariant-loop-change : goal.invariant-loop-change
invariant-loop-change l = record {
  apply : AllApply l.volume (drop l.change-index l.changes);
  lead : after l.volume (drop l.change-index l.changes) ≡ after (empty_volume l.capacities) l.changes;
}
