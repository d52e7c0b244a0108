use Rattle.vtl_hosts.specs.Inner.Hosts.{IsHostServed}
use Rattle.vtl_hosts.proofs.hosts.answer_all.Given as goal

-- the requests so far were answered
abbrev pub invariant-loop : goal.invariant-loop
invariant-loop g l = IsHostServed g.S.Host.answers l.fn.host l.host
