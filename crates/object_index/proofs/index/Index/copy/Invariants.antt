use Rattle.std.proofs.Common.{◌≡◌, ◌+◌, ◌-◌, ◌≤◌, All, map, take, length, vec_len, vec_capacity}
use Rattle.volume_core.specs.Volume.{IsPart}
use Rattle.object_index.specs.Places.{unreserved, outline}
use Rattle.object_index.proofs.index.Index.copy.Given as goal

-- the partitions so far, and room for the others
abbrev pub invariant-loop-partition : goal.invariant-loop-partition
invariant-loop-partition l = record {
  so_far : l.partitions.items ≡ map unreserved (take l.partition-index l.partition-items);
  limits : All IsPart (outline l.partitions.items);
  room : vec_len l.partitions + (length l.partition-items - l.partition-index) ≤ vec_capacity l.partitions;
}
