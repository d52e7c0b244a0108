use Rattle.drive_theorems.proofs.RunLemmas.{runs_append}
use Rattle.drive_theorems.proofs.laws.runs_append.Goals as goal

pub returns : goal.returns
returns c = runs_append
