use Rattle.std.proofs.Common.{length}
use Rattle.std.specs.Prelude.{IsTrue}
use Rattle.std.specs.List.{All}
use Rattle.vtl_base.specs.Limits.{is_capacity}
use Rattle.gate_journal.specs.Inner.Reading.{numbers_of}
use Rattle.gate_journal.proofs.spelling.hold_capacities.Given as goal

abbrev pub invariant-loop-rest : goal.invariant-loop-rest
invariant-loop-rest l = record {
  to :
      All (λ bytes. IsTrue (is_capacity bytes)) (numbers_of l.rest) →
      All (λ bytes. IsTrue (is_capacity bytes)) (numbers_of l.bytes);
  back :
      All (λ bytes. IsTrue (is_capacity bytes)) (numbers_of l.bytes) →
      All (λ bytes. IsTrue (is_capacity bytes)) (numbers_of l.rest);
}

abbrev pub decreases-loop-rest : goal.decreases-loop-rest
decreases-loop-rest l = length l.rest
