-- The failures of a disk, as contracts see them.
use Rattle.std.specs.Prelude.{ℕ}
use Rattle.tape_disk.specs.declared.failures.Failures.{Failures}

-- the number of failures, without a bound (own)
abbrev pub failure_count : Failures → ℕ
failure_count failures = failures.count.value
