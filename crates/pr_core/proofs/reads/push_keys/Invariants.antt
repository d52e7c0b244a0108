use Rattle.std.proofs.Common.{◌≡◌, ◌++◌, take}
use Rattle.std.specs.List.{flat_map}
use Rattle.pr_core.specs.Reads.{key_bytes}
use Rattle.pr_core.proofs.reads.push_keys.Given as goal

abbrev pub invariant-loop-key : goal.invariant-loop-key
invariant-loop-key l =
    l.row.items ≡ l.initial.row.items ++ flat_map key_bytes (take l.key-index l.keys)
