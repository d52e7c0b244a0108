-- What the system's answers mean for an opening.
use Rattle.std.specs.Prelude.{◌≡◌, ◌≢◌, Bool, false, Result, Ok, Err}
use Rattle.std.specs.IoError.{error_kind}
use Rattle.std.specs.declared.fs.locks.TryLockError.{TryLockError}
use Rattle.std.specs.declared.fs.locks.TryLockError.TheVariants as locks
use Rattle.std.specs.declared.io.Error as io
use Rattle.std.specs.declared.io.ErrorKind.TheVariants as kinds
use Rattle.file_disk.specs.FailedCall.{failed_by}
use Rattle.file_disk.specs.declared.error.FileError.{FileError}
use Rattle.file_disk.specs.declared.error.FileError.TheVariants.{Exists, Missing, NotAFile, InUse, Device}
use Rattle.file_disk.specs.declared.failed.SystemCall.{SystemCall}
use Rattle.file_disk.specs.declared.failed.SystemCall.TheVariants as calls

-- what an error of the system in a call means for a name; an error of another kind is that of the call (own)
pub record IsErrorOf (call : SystemCall) (cause : io.Error) (error : FileError) : Type 0 where
  pub exists : error_kind cause ≡ kinds.AlreadyExists → error ≡ Exists
  pub missing : error_kind cause ≡ kinds.NotFound → error ≡ Missing
  pub folder : error_kind cause ≡ kinds.IsADirectory → error ≡ NotAFile
  pub other : error_kind cause ≢ kinds.AlreadyExists → error_kind cause ≢ kinds.NotFound
      → error_kind cause ≢ kinds.IsADirectory → error ≡ Device (failed_by call cause)

-- What an answer of the system to the asking for a lock means: where there are no locks a file is taken
-- without one, and is not locked (own).
pub record IsLockAnswer (error : TryLockError) (result : Result Bool FileError) : Type 0 where
  pub in_use : error ≡ locks.WouldBlock → result ≡ Err InUse
  pub no_locks : (cause : io.Error) → error ≡ locks.Error cause → error_kind cause ≡ kinds.Unsupported → result ≡ Ok
      false
  pub failed : (cause : io.Error) → error ≡ locks.Error cause → error_kind cause ≢ kinds.Unsupported →
      result ≡ Err (Device (failed_by calls.Lock cause))
