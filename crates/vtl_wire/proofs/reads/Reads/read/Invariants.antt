use Rattle.std.proofs.Common.{◌≡◌, [], length}
use Rattle.std.specs.Io.KnownBytes.{Consumes}
use Rattle.vtl_wire.proofs.reads.Reads.read.Given as goal

-- nothing came yet, and no read failed
abbrev pub invariant-loop : goal.invariant-loop
invariant-loop g l = record {
  none : Consumes (g.R.Read.remaining l.fn.reader) (g.R.Read.remaining l.reader) [];
  long : length l.slice ≡ length l.fn.slice;
  same : l.self-inside.failed ≡ l.fn.self;
}
