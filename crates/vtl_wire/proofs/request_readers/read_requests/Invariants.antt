use Rattle.vtl_wire.specs.Reads.{IsHeaderLong, LacksData}
use Rattle.vtl_wire.specs.Requests.{request_frames}
use Rattle.vtl_wire.proofs.ReaderLemmas.{AreRead}
use Rattle.vtl_wire.proofs.request_readers.read_requests.Given as goal

-- the requests so far were read, and counted
abbrev pub invariant-loop : goal.invariant-loop
invariant-loop g l =
    AreRead request_frames IsHeaderLong LacksData
    (g.R.Read.remaining l.fn.reader) (g.R.Read.remaining l.reader) l.requests.items l.frames.frames l.counter
