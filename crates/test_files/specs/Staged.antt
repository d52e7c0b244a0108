-- A file for tests, as its contracts see it.
use Rattle.std.specs.Prelude.{◌⊎◌, ℕ, ◌<◌, List, length}
use Rattle.std.proofs.Common.{⊎_elim}
use Rattle.tape_disk.specs.CallLog.{CallLog, log_state}
use Rattle.tape_disk.specs.Disk.{DiskState}
use Rattle.tape_disk.specs.MemDisk.{mem_log}
use Rattle.tape_disk.specs.declared.memory.MemDisk.{MemDisk}
use Rattle.test_files.specs.declared.staged.StagedFile.{StagedFile}
use Rattle.test_files.specs.declared.staged.Turn.{Turn}

-- the disk below (own)
abbrev pub staged_disk : StagedFile → MemDisk
staged_disk file = file.disk

-- what the next calls do, in order (own)
abbrev pub staged_turns : StagedFile → List Turn
staged_turns file = file.turns.items

-- the log of the disk below (own)
abbrev pub staged_log : StagedFile → CallLog
staged_log file = mem_log file.disk

-- that of the disk below; a file counts no failures (own)
abbrev pub staged_file_state : StagedFile → DiskState
staged_file_state file = log_state (staged_log file) 0

-- Its sync passes over no place: one that failed did nothing, and the next one makes all sure (own).
abbrev pub staged_passed_over : StagedFile → ℕ → Type 0
staged_passed_over file place = ⊥

-- No place is lost by a sync that fails, so none is counted as written since the last good one (own).
abbrev pub staged_unsynced : StagedFile → ℕ → Type 0
staged_unsynced file place = ⊥

-- each such place lies in the file
pub staged_within : (file : StagedFile) (place : ℕ) → staged_passed_over file place ⊎ staged_unsynced file place
    → place < length (staged_file_state file).seen
staged_within file place = ⊎_elim (λ never. absurd never) (λ never. absurd never)
