use Rattle.std.proofs.Common.{◌≡◌, ◌+◌, ◌*◌, ◌≤◌, ◌++◌, take}
use Rattle.std.specs.Prelude.{vec_capacity, vec_len}
use Rattle.std.specs.List.{flat_map}
use Rattle.std.specs.Int.{to_be_bytes, w64}
use Rattle.cartridge_sides.proofs.spelling.put_capacities.Given as goal

abbrev pub invariant-loop-capacity : goal.invariant-loop-capacity
invariant-loop-capacity l =
    record {
      items :
          l.buffer.items ≡ l.initial.buffer.items
          ++ flat_map (to_be_bytes w64) (take l.capacity-index l.capacities);
      len : vec_len l.buffer ≡ vec_len l.initial.buffer + 8 * l.capacity-index;
      room : vec_capacity l.initial.buffer ≤ vec_capacity l.buffer;
    }
