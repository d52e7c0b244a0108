use Rattle.std.proofs.Common.{◌≡◌}
use Rattle.rtrb.specs.Ring.{SameProducer, sent}
use Rattle.vtl_hosts.proofs.pushing.push_waiting.Given as goal

-- nothing was pushed yet
abbrev pub invariant-loop : goal.invariant-loop
invariant-loop g l =
    SameProducer l.initial.ring l.ring × (sent l.ring ≡ sent l.initial.ring) × (l.item ≡ l.initial.item)
