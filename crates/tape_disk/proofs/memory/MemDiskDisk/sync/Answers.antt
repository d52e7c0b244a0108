use Rattle.tape_disk.proofs.Steps.{is_synced}
use Rattle.tape_disk.proofs.memory.MemDiskDisk.sync.Goals as goal

pub returns-in-Ok-clause-syncs : goal.returns-in-Ok-clause-syncs
returns-in-Ok-clause-syncs c = λ honest. is_synced _ _ _ _ c.in-Ok.ensures.ok
