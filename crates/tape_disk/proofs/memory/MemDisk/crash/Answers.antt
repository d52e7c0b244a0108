use Rattle.tape_disk.proofs.Torn.{is_allowed}
use Rattle.tape_disk.proofs.memory.MemDisk.crash.Goals as goal

pub returns-in_err-image-clause-allowed : goal.returns-in_err-image-clause-allowed
returns-in_err-image-clause-allowed c = is_allowed _ _ _ _

pub returns-clause-allowed : goal.returns-clause-allowed
returns-clause-allowed c = is_allowed _ _ _ _
