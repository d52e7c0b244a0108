use Rattle.std.proofs.Common.{◌≤◌, vec_len}
use Rattle.test_crashes.proofs.stops.stop_at_each_call.Given as goal

abbrev pub invariant-loop-calls : goal.invariant-loop-calls
invariant-loop-calls g l = 9 ≤ vec_len l.stops
