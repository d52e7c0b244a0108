use Rattle.std.proofs.Common.{ap}
use Rattle.tape_disk.specs.MemDisk.{mem_log}
use Rattle.test_files.proofs.StagedLemmas.{staged_wrote, staged_stopped}
use Rattle.test_files.proofs.staged.StagedFileRawFile.write_some.Goals as goal

pub returns-in-Ok-write_at-clause-writes : goal.returns-in-Ok-write_at-clause-writes
returns-in-Ok-write_at-clause-writes c = λ honest.
    staged_wrote _ _ _ (ap mem_log c.next_turn-turn.ensures) c.args.at _ c.args.bytes.now
    c.in-Ok-write_at.ensures.effect.0

pub returns-in-Err-write_at-clause-writes : goal.returns-in-Err-write_at-clause-writes
returns-in-Err-write_at-clause-writes c = λ honest.
    staged_stopped _ _ _ (ap mem_log c.next_turn-turn.ensures) c.args.at c.args.bytes.now _
    c.in-Err-write_at.ensures.effect.0

pub returns-in-Err-clause-writes : goal.returns-in-Err-clause-writes
returns-in-Err-clause-writes c = λ honest.
    staged_stopped _ _ _ (ap mem_log c.next_turn-turn.ensures) c.args.at c.args.bytes.now _ c.rest.ensures
