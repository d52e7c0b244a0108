use Rattle.std.proofs.Common.{◌≡◌, ◌++◌, take}
use Rattle.std.specs.List.{flat_map}
use Rattle.std.specs.Int.{to_be_bytes, w64}
use Rattle.gate_journal.proofs.spelling.spell_capacities.Given as goal

abbrev pub invariant-loop-capacity : goal.invariant-loop-capacity
invariant-loop-capacity l = l.bytes.items ≡ l.initial.bytes.items ++ flat_map (to_be_bytes w64)
    (take l.capacity-index l.capacities)
