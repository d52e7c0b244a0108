use Rattle.bay_moves.specs.Inner.Finishing.{IsWrittenUpTo}
use Rattle.bay_moves.proofs.held.Held.finish.Given as goal

-- the drives so far took a turn
abbrev pub invariant-loop-place : goal.invariant-loop-place
invariant-loop-place g l = IsWrittenUpTo g.D.Disk.state l.place l.fn.self l.result l.self
