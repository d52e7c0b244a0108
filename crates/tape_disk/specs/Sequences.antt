-- Calls one after another, by the facts of each.
use Rattle.std.specs.Prelude.{Result, Ok, Err}
use Rattle.std.proofs.Common.{◌∙◌, arith}
use Rattle.tape_disk.specs.Disk.{DiskState, Keeps, Passes}
use Rattle.vtl_base.specs.declared.faults.DevFault.{DevFault}

-- what holds after a call with any result
pub keeps_of_passes : (old new : DiskState) {T : Type 0} (result : Result T DevFault) →
    Passes old new result → Keeps old new
keeps_of_passes old new (Ok value) passes = record {
  stays_honest = passes.stays_honest;
  was_honest = passes.was_honest;
  counted = omega (arith, passes.none_failed);
}
keeps_of_passes old new (Err fault) passes = record {
  stays_honest = passes.stays_honest;
  was_honest = passes.was_honest;
  counted = omega (arith, passes.cause);
}

module _ (old mid new : DiskState) where
  -- calls one after another, with any results
  pub keeps_in_sequence : Keeps old mid → Keeps mid new → Keeps old new
  keeps_in_sequence first second = record {
    stays_honest = λ honest. second.stays_honest (first.stays_honest honest);
    was_honest = λ honest. first.was_honest (second.was_honest honest);
    counted = omega (arith, first.counted, second.counted);
  }

  -- after a call with the result Ok the next one decides
  pub passes_in_sequence : {S T : Type 0} (value : S) (next : Result T DevFault) →
      Passes {T = S} old mid (Ok value) → Passes mid new next → Passes old new next
  passes_in_sequence value (Ok other) first second = record {
    stays_honest = λ honest. second.stays_honest (first.stays_honest honest);
    was_honest = λ honest. first.was_honest (second.was_honest honest);
    none_failed = second.none_failed ∙ first.none_failed;
    cause = tt;
    reported = tt;
  }
  passes_in_sequence value (Err fault) first second = record {
    stays_honest = λ honest. second.stays_honest (first.stays_honest honest);
    was_honest = λ honest. first.was_honest (second.was_honest honest);
    none_failed = tt;
    cause = omega (arith, first.none_failed, second.cause);
    reported = second.reported;
  }
