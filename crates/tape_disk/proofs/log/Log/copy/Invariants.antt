use Rattle.std.proofs.Common.{◌≡◌, ◌++◌, map}
use Rattle.tape_disk.specs.Log.{logged_call}
use Rattle.tape_disk.proofs.log.Log.copy.Given as goal

abbrev pub invariant-loop-call : goal.invariant-loop-call
invariant-loop-call l = map logged_call l.calls ++ map logged_call l.call-iterator ≡ map logged_call l.self.calls
