-- Why a call for a file or a stream failed.
use Rattle.std.specs.Prelude.{ℕ, List, ◌++◌, Option, Some, None, String, string_bytes, codes}
use Rattle.std.specs.declared.alloc.Global.{Global}
use Rattle.explanations.specs.Lines.{line_of}
use Rattle.file_disk.specs.declared.error.FileError.{FileError}
use Rattle.file_disk.specs.declared.error.FileError.TheVariants as errors
use Rattle.file_disk.specs.declared.failed.SystemCall.{SystemCall}
use Rattle.file_disk.specs.declared.failed.SystemCall.TheVariants as calls
use Rattle.file_reasons.specs.Answers.{answer_text}
use Rattle.file_reasons.specs.Fixes.{fix_of}
use Rattle.file_reasons.specs.declared.reasons.FileCall.{FileCall}
use Rattle.file_reasons.specs.declared.reasons.FileCall.TheVariants.{Read, Write, Open, Make, Look, Lock, ReadAt, WriteAt, Sync, SyncFolder, Cut}
use Rattle.file_reasons.specs.declared.reasons.FileReason.{FileReason}
use Rattle.file_reasons.specs.declared.reasons.Source.{Source}
use Rattle.file_reasons.specs.declared.reasons.Source.TheVariants.{File, Input, Output}

-- the name of a call for a file or a stream (own)
abbrev pub call_name : FileCall → List ℕ
call_name Read = codes "read"
call_name Write = codes "write"
call_name Open = codes "open"
call_name Make = codes "make"
call_name Look = codes "look at"
call_name Lock = codes "lock"
call_name ReadAt = codes "read at"
call_name WriteAt = codes "write at"
call_name Sync = codes "sync"
call_name SyncFolder = codes "sync of the folder"
call_name Cut = codes "cut"

-- a call of the system (own)
abbrev pub call_of : SystemCall → FileCall
call_of calls.Look = Look
call_of calls.Open = Open
call_of calls.Renumber = Open
call_of calls.Lock = Lock
call_of calls.ReadAt = ReadAt
call_of calls.WriteAt = WriteAt
call_of calls.Cut = Cut
call_of calls.Sync = Sync
call_of calls.SyncFolder = SyncFolder

-- the call that decided why a file was not opened or not made: of a file in use the lock (own)
abbrev pub call_of_error : FileCall → FileError → FileCall
call_of_error call errors.Exists = call
call_of_error call errors.Missing = call
call_of_error call errors.NotAFile = call
call_of_error call errors.InUse = Lock
call_of_error call (errors.Device failed) = call_of failed.call

-- what a call works on, in words (own)
abbrev pub source_text : Source → List ℕ
source_text (File name) = codes "the file " ++ string_bytes name
source_text Input = codes "standard input"
source_text Output = codes "standard output"

-- the answer of a call: the system's words where there are any, else ours (own)
abbrev pub answer_in : List ℕ → Option (String Global) → List ℕ
answer_in ours (Some words) = codes "answer: " ++ string_bytes words
answer_in ours None = codes "answer: " ++ ours

-- the answer of a call that failed (own)
abbrev pub answered : FileReason → List ℕ
answered reason = answer_in (answer_text reason.answer) reason.words

-- the lines that explain why a call failed: which, on what, the answer, what to do (own)
abbrev pub file_lines : FileReason → List ℕ
file_lines reason =
    line_of (codes "failed: " ++ (call_name reason.call ++ (codes ", of " ++ source_text reason.source)))
    ++ (line_of (answered reason) ++ line_of (fix_of reason.call reason.answer))
