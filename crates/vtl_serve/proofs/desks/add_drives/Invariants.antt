use Rattle.std.proofs.Common.{◌≡◌, ◌++◌}
use Rattle.std.specs.Prelude.{flat_map}
use Rattle.std.specs.List.{range_with_len}
use Rattle.vtl_serve.specs.Labels.{drive_entry}
use Rattle.vtl_serve.proofs.desks.add_drives.Given as goal

-- the entries of the drives so far are there
abbrev pub invariant-loop-place : goal.invariant-loop-place
invariant-loop-place g l =
    l.entries.items ≡ l.fn.entries.items ++ flat_map (drive_entry l.library l.labels) (range_with_len 1 l.place)
