use Rattle.std.proofs.Common.{◌≡◌, true}
use Rattle.test_values.proofs.positions.tape.Given as goal

abbrev pub invariant-loop-object : goal.invariant-loop-object
invariant-loop-object l = l.medium.awake ≡ true
