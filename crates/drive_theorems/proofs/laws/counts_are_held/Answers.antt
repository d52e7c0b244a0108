use Rattle.drive_theorems.proofs.CountLemmas.{counts_are_held}
use Rattle.drive_theorems.proofs.laws.counts_are_held.Goals as goal

pub returns : goal.returns
returns c = counts_are_held
