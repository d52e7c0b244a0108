use Rattle.accepted_changes.proofs.FaultLemmas.{faults_stay, stops_clear, told_once}
use Rattle.accepted_changes.proofs.laws.faults_stay_until_stopped.Goals as goal

pub returns : goal.returns
returns g c =
    record {
      stay = faults_stay g.A.Accepting.rules;
      cleared = stops_clear g.A.Accepting.rules;
      once = told_once g.A.Accepting.rules;
    }
