use Rattle.std.proofs.Common.{◌≡◌, ℕ, ◌<◌, ◌≤◌}
use Rattle.gate_journal.specs.Side.{drive_name}
use Rattle.gate_journal.proofs.header.is_drive_name.Given as goal

abbrev pub invariant-loop-number : goal.invariant-loop-number
invariant-loop-number l = (k : ℕ) → 1 ≤ k → k < l.number → l.name ≡ drive_name k → ⊥
