use Rattle.std.proofs.Common.{◌-◌, length}
use Rattle.change_records.proofs.Decoding.{IsDecodedTo}
use Rattle.change_records.proofs.spelling.decode_changes.Given as goal

abbrev pub invariant-loop-at : goal.invariant-loop-at
invariant-loop-at l = IsDecodedTo l.bytes l.changes.items l.at

abbrev pub decreases-loop-at : goal.decreases-loop-at
decreases-loop-at l = length l.bytes - l.at
