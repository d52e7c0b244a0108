use Rattle.tape_disk.proofs.Steps.{not_cut, same_log}
use Rattle.tape_disk.proofs.memory.MemDiskDisk.cut.Goals as goal

pub returns-in-Err-clause-cuts : goal.returns-in-Err-clause-cuts
returns-in-Err-clause-cuts c = λ honest.
    not_cut _ _ (same_log _ _ _ _ _ c.in-Err.ensures.err c.fail.ensures.log) c.fail.result c.args.len
