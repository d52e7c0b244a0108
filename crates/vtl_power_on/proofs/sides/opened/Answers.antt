use Rattle.vtl_power_on.proofs.SidesLemmas.{same_by_refusal}
use Rattle.vtl_power_on.proofs.sides.opened.Goals as goal

pub returns-in-Err-clause-err : goal.returns-in-Err-clause-err
returns-in-Err-clause-err g c = record {
  error = c.in-Err.refused.error;
  printed = c.fault_of_store-fault.ensures;
  cause = c.in-Err.ensures.refused;
  keeps = c.in-Err.ensures.disk;
  same = λ honest none.
      same_by_refusal c.in-Err.refused.error _ _ c.in-Err.ensures.refused none honest
      (g.met.D.Disk.is_disk c.in-Err.refused.disk (c.in-Err.ensures.disk.stays_honest honest));
  any_moment = c.in-Err.ensures.any_moment;
}
