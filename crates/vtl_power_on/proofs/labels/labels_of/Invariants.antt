use Rattle.std.proofs.Common.{◌≡◌, ◌++◌, drop}
use Rattle.vtl_power_on.specs.Serving.{labels_of}
use Rattle.vtl_power_on.proofs.labels.labels_of.Given as goal

-- the labels so far are those of the entries so far
abbrev pub invariant-loop-entry : goal.invariant-loop-entry
invariant-loop-entry l = l.labels.items ++ labels_of (drop l.entry-index l.entries) ≡ labels_of l.entries
