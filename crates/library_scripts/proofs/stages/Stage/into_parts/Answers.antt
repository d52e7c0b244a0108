use Rattle.std.proofs.Common.{arith}
use Rattle.library_scripts.proofs.JobLemmas.{jobs_are}
use Rattle.library_scripts.proofs.stages.Stage.into_parts.Goals as goal

pub seats_in-requires : goal.seats_in-requires
seats_in-requires g c = (c.requires.0, omega (arith, c.requires.1, jobs_are _ c.self.invariant))
