use Rattle.tape_disk.proofs.Steps.{not_written, same_log}
use Rattle.tape_disk.proofs.memory.MemDiskDisk.write_at.Goals as goal

pub returns-in-Err-clause-writes : goal.returns-in-Err-clause-writes
returns-in-Err-clause-writes c = λ honest.
    let same = same_log _ _ _ _ _ c.in-Err.ensures.err.0 c.fail.ensures.log in
    not_written _ _ same c.fail.result c.args.at c.args.bytes.now
