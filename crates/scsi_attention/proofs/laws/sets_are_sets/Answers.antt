use Rattle.scsi_attention.proofs.BitLemmas.{same_set}
use Rattle.scsi_attention.proofs.laws.sets_are_sets.Goals as goal

pub returns-clause-members : goal.returns-clause-members
returns-clause-members c = same_set
