use Rattle.split_runs.proofs.BothReplyLemmas.{halves_reply}
use Rattle.split_runs.proofs.laws.halves_answer_as_the_machine.Goals as goal

pub returns : goal.returns
returns g c = halves_reply g.D.Disk.state g.met.D.Disk.is_disk c.honest_steps.ensures
