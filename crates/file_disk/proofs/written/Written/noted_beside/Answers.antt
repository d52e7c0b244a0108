use Rattle.file_disk.proofs.DoubtLemmas.{other_covers}
use Rattle.file_disk.proofs.written.Written.noted_beside.Goals as goal

pub returns-in-Some : goal.returns-in-Some
returns-in-Some c = record {
  covers = other_covers c.args.self c.args.at c.args.end c.in-Some.other c.in-Some.ensures.covers;
}

pub returns-in-None : goal.returns-in-None
returns-in-None c = record { covers = λ place lies. c.apart.ensures place }
