use Rattle.file_disk.proofs.DoubtLemmas.{one_covers}
use Rattle.file_disk.proofs.written.Written.noted.Goals as goal

pub returns-in-Some : goal.returns-in-Some
returns-in-Some c = record {
  covers = one_covers c.args.self c.args.at c.args.end c.in-Some.one c.in-Some.ensures.covers;
}
