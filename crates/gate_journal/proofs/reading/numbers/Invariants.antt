use Rattle.std.proofs.Common.{◌≡◌, ◌++◌, length}
use Rattle.gate_journal.specs.Inner.Reading.{numbers_of}
use Rattle.gate_journal.proofs.reading.numbers.Given as goal

abbrev pub invariant-loop-rest : goal.invariant-loop-rest
invariant-loop-rest l = l.numbers.items ++ numbers_of l.rest ≡ numbers_of l.bytes

abbrev pub decreases-loop-rest : goal.decreases-loop-rest
decreases-loop-rest l = length l.rest
