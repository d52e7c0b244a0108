-- A call of the system for a file that failed.
use Rattle.std.specs.Prelude.{None}
use Rattle.std.specs.IoError.{error_kind, raw_os_error}
use Rattle.std.specs.declared.io.Error.{Error}
use Rattle.std.specs.declared.io.ErrorKind.{ErrorKind}
use Rattle.std.specs.declared.io.ErrorKind.TheVariants.{UnexpectedEof, WriteZero}
use Rattle.file_disk.specs.declared.failed.FailedCall.{FailedCall}
use Rattle.file_disk.specs.declared.failed.SystemCall.{SystemCall}
use Rattle.file_disk.specs.declared.failed.SystemCall.TheVariants.{WriteAt}

-- a call that the system answered with this error: its kind, and its number where it has one (own)
abbrev pub failed_by : SystemCall → Error → FailedCall
failed_by call error = record { call = call; kind = error_kind error; number = raw_os_error error }

-- the kind of error of a call that moved no bytes: a file takes none, or it has ended (own, of POSIX's pread and
-- pwrite)
abbrev pub kind_of_none : SystemCall → ErrorKind
kind_of_none WriteAt = WriteZero
kind_of_none _ = UnexpectedEof

-- a call that should have moved bytes, and moved none (own)
abbrev pub none_moved : SystemCall → FailedCall
none_moved call = record { call = call; kind = kind_of_none call; number = None }
