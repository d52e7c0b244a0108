-- What a call for a file was answered.
use Rattle.std.specs.Prelude.{ℕ, ℤ, Bool, true, false, List, ◌++◌, Option, Some, None, codes, decimal}
use Rattle.std.specs.Fmt.{signed_decimal}
use Rattle.std.specs.declared.io.ErrorKind.{ErrorKind}
use Rattle.std.specs.declared.io.ErrorKind.TheVariants as kinds
use Rattle.file_disk.specs.declared.error.FileError.{FileError}
use Rattle.file_disk.specs.declared.error.FileError.TheVariants as errors
use Rattle.file_disk.specs.declared.failed.FailedCall.{FailedCall}
use Rattle.vtl_base.specs.declared.limits.TheConstants.{SCRIPT_BYTES}
use Rattle.file_reasons.specs.declared.answers.Answer.{Answer}
use Rattle.file_reasons.specs.declared.answers.Answer.TheVariants as answers

-- what an error of the system of this kind says, with its number (own)
abbrev pub answer_of_kind : ErrorKind → Option ℤ → Answer
answer_of_kind kinds.NotFound number = answers.Missing
answer_of_kind kinds.NotADirectory number = answers.BadName
answer_of_kind kinds.InvalidFilename number = answers.BadName
answer_of_kind kinds.FilesystemLoop number = answers.BadName
answer_of_kind kinds.IsADirectory number = answers.NotAFile
answer_of_kind kinds.AlreadyExists number = answers.Exists
answer_of_kind kinds.PermissionDenied number = answers.Denied
answer_of_kind kinds.StorageFull number = answers.NoRoom
answer_of_kind kinds.QuotaExceeded number = answers.NoRoom
answer_of_kind kinds.ReadOnlyFilesystem number = answers.ReadOnly
answer_of_kind kinds.UnexpectedEof number = answers.Ended
answer_of_kind kinds.WriteZero number = answers.TookNone
answer_of_kind kinds.FileTooLarge number = answers.TooLarge
answer_of_kind kinds.BrokenPipe number = answers.NoReader
answer_of_kind _ number = answers.Other number

-- what a call for an open file was answered (own)
abbrev pub answer_of_call : FailedCall → Answer
answer_of_call failed = answer_of_kind failed.kind failed.number

-- why a file was not made or opened (own)
abbrev pub answer_of_file : FileError → Answer
answer_of_file errors.Exists = answers.Exists
answer_of_file errors.Missing = answers.Missing
answer_of_file errors.NotAFile = answers.NotAFile
answer_of_file errors.InUse = answers.InUse
answer_of_file (errors.Device failed) = answer_of_call failed

-- whether an answer may be shown in the system's own words: none of the common ones, with a number (own)
abbrev pub may_have_words : Answer → Bool
may_have_words (answers.Other (Some number)) = true
may_have_words _ = false

-- an answer in words (own)
abbrev pub answer_text : Answer → List ℕ
answer_text answers.Missing = codes "there is no such file or folder"
answer_text answers.BadName = codes "the name is too long, a part of it is not a folder, or its links form a loop"
answer_text answers.NotAFile = codes "what has this name is no regular file"
answer_text answers.Exists = codes "the name is taken"
answer_text answers.InUse = codes "the file is in use by another process, or open under another name"
answer_text answers.Denied = codes "the system does not allow it"
answer_text answers.NoRoom = codes "the file system is full"
answer_text answers.ReadOnly = codes "the file system is read only"
answer_text answers.Ended = codes "the file has ended before all bytes were read"
answer_text answers.TookNone = codes "no byte was taken"
answer_text answers.TooLarge = codes "the file may not be so long"
answer_text answers.NoReader = codes "the program that read it has ended"
answer_text answers.LongScript = codes "a script has " ++ (decimal SCRIPT_BYTES ++ codes " bytes at most")
answer_text (answers.Other (Some number)) = codes "the system reported error " ++ signed_decimal number
answer_text (answers.Other None) = codes "the system reported an error"
