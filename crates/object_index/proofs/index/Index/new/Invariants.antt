use Rattle.std.proofs.Common.{◌≡◌, ◌+◌, ◌-◌, ◌≤◌, All, map, take, length, vec_len, vec_capacity}
use Rattle.volume_core.specs.Volume.{IsPart}
use Rattle.object_index.specs.Places.{empty_placed, outline}
use Rattle.object_index.proofs.index.Index.new.Given as goal

-- the partitions so far, and room for the others
abbrev pub invariant-loop-capacity : goal.invariant-loop-capacity
invariant-loop-capacity l = record {
  so_far : l.partitions.items ≡ map empty_placed (take l.capacity-index l.capacities);
  limits : All IsPart (outline l.partitions.items);
  room : vec_len l.partitions + (length l.capacities - l.capacity-index) ≤ vec_capacity l.partitions;
}
