-- A file of a system that forgets what a failed sync left, as its contracts see it.
use Rattle.std.specs.Prelude.{◌⊎◌, ℕ, ◌<◌, ◌≤◌, length}
use Rattle.std.proofs.Common.{⊎_elim}
use Rattle.tape_disk.specs.CallLog.{CallLog, log_state}
use Rattle.tape_disk.specs.Disk.{DiskState}
use Rattle.tape_disk.specs.MemDisk.{mem_log}
use Rattle.tape_disk.specs.declared.memory.MemDisk.{MemDisk}
use Rattle.test_files.specs.declared.forgetful.ForgetfulFile.{ForgetfulFile}

-- the disk below (own)
abbrev pub forgetful_disk : ForgetfulFile → MemDisk
forgetful_disk file = file.disk

-- the log of the disk below (own)
abbrev pub forgetful_log : ForgetfulFile → CallLog
forgetful_log file = mem_log file.disk

-- that of the disk below; a file counts no failures (own)
abbrev pub forgetful_file_state : ForgetfulFile → DiskState
forgetful_file_state file = log_state (forgetful_log file) 0

-- the bytes that it takes for written (own)
abbrev pub forgetful_passed_over : ForgetfulFile → ℕ → Type 0
forgetful_passed_over file place =
    (file.from ≤ place) × (place < file.to) × (place < length (forgetful_file_state file).seen)

-- of the bytes that were written since its last good sync the last ones, which a sync that fails loses (own)
abbrev pub forgetful_unsynced : ForgetfulFile → ℕ → Type 0
forgetful_unsynced file place =
    (file.since ≤ place) × (place < file.until) × (place < length (forgetful_file_state file).seen)

-- each such place lies in the file
pub forgetful_within : (file : ForgetfulFile) (place : ℕ)
    → forgetful_passed_over file place ⊎ forgetful_unsynced file place
    → place < length (forgetful_file_state file).seen
forgetful_within file place = ⊎_elim (λ passed. passed.2) (λ written. written.2)
