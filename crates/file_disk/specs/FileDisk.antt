-- A file of the system, and the state of a disk over it.
use Rattle.std.specs.Prelude.{Bool, Option}
use Rattle.std.specs.declared.fs.File.{File}
use Rattle.tape_disk.specs.Disk.{DiskState}
use Rattle.file_disk.specs.Inner.SystemFile.{system_state}
use Rattle.file_disk.specs.OpenFile.{OpenFile, file_disk_state}
use Rattle.file_disk.specs.declared.failed.FailedCall.{FailedCall}
use Rattle.file_disk.specs.declared.system.SystemFile.{SystemFile}

-- the open file that the system has, if there is one (own)
abbrev pub system_file : SystemFile → Option File
system_file file = file.file

-- the call for it that failed last, where one did (own)
abbrev pub system_failed : SystemFile → Option FailedCall
system_failed file = file.failed

-- a lock was asked for the file, and its file system has none (own)
abbrev pub lacks_locks : SystemFile → Bool
lacks_locks file = file.lacks_locks

-- the state of a disk over a file of the system, of which no proof knows whether it is honest (own)
abbrev pub file_state : OpenFile SystemFile → DiskState
file_state = file_disk_state system_state
