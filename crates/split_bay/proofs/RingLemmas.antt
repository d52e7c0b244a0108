-- The ends of a ring stay its ends.
use Rattle.std.proofs.Common.{Option, None, Some, ◌∙◌}
use Rattle.rtrb.specs.Ends.{SameRing}
use Rattle.split_bay.specs.Rings.{Sender, SendsInto}

pub sends_still : (ring : Option Sender) (a b : Sender) → SendsInto ring a → SameRing a.end b.end → SendsInto ring b
sends_still None a b is same = is
sends_still (Some first) a b is same = (same.0 ∙ is.0, same.1 ∙ is.1, same.2 ∙ is.2, same.3 ∙ is.3)
