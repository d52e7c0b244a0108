use Rattle.std.proofs.Common.{◌≡◌, true}
use Rattle.vtl_hosts.specs.Inner.Reading.{ReadsCommands}
use Rattle.vtl_hosts.proofs.reading.read_round.Given as goal

-- the commands so far were read and dealt, no read failed, and if not all threads had begun, nothing was read
abbrev pub invariant-loop : goal.invariant-loop
invariant-loop g l = record {
  reads :
      ReadsCommands (g.G.Desk.is_taken l.desk) l.fn.frames.frames l.fn.rings (g.I.Read.remaining l.fn.reader)
      l.frames.frames l.rings (g.I.Read.remaining l.reader);
  same : l.frames.failed ≡ l.fn.frames.failed;
  first : l.fn.seen.late ≡ true → l.frames.frames ≡ l.fn.frames.frames;
}
