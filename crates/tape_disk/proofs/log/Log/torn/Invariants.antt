use Rattle.std.proofs.Common.{List, length, map}
use Rattle.tape_disk.specs.CallLog.{LoggedCall}
use Rattle.tape_disk.specs.Log.{logged_call}
use Rattle.tape_disk.proofs.Replays.{Replays}
use Rattle.tape_disk.proofs.log.Log.torn.Given as goal

abbrev pub invariant-loop-call : goal.invariant-loop-call
invariant-loop-call l = (older : List LoggedCall)
    × Replays l.fn.self.base.items l.keep l.fill (map logged_call l.fn.self.calls) (map logged_call l.calls) older
    l.syncs l.left l.image.items

abbrev pub decreases-loop-call : goal.decreases-loop-call
decreases-loop-call l = length l.calls
