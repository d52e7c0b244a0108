use Rattle.std.proofs.Common.{◌≡◌, ◌+◌, ◌<◌, ℕ, get_or, length}
use Rattle.vtl_power_on.proofs.using.every_host.Given as goal

-- the hosts so far have the numbers from 1 on
abbrev pub invariant-loop-place : goal.invariant-loop-place
invariant-loop-place l =
    (length l.hosts ≡ 64) × ((k : ℕ) → k < l.place → get_or l.hosts k 0 ≡ k + 1)
