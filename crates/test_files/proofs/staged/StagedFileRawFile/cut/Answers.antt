use Rattle.std.proofs.Common.{ap}
use Rattle.tape_disk.specs.MemDisk.{mem_log}
use Rattle.test_files.proofs.StagedLemmas.{staged_not_cut}
use Rattle.test_files.proofs.staged.StagedFileRawFile.cut.Goals as goal

pub returns-then-is_err-clause-cuts : goal.returns-then-is_err-clause-cuts
returns-then-is_err-clause-cuts c = λ honest.
    staged_not_cut _ _ _ (ap mem_log c.next_turn-turn.ensures) c.args.len _ c.rest.ensures
