use Rattle.std.proofs.Common.{◌+◌, ◌≤◌, vec_len}
use Rattle.test_crashes.proofs.stops.add_stops.Given as goal

abbrev pub invariant-loop-keep : goal.invariant-loop-keep
invariant-loop-keep g l = vec_len l.initial.stops + l.keep-index ≤ vec_len l.stops
