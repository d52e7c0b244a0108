-- What to do about a call that failed.
use Rattle.std.specs.Prelude.{ℕ, ℤ, pos, negsuc, ◌==◌, List, Option, Some, None, codes, if◌then◌else◌}
use Rattle.file_reasons.specs.declared.answers.Answer.{Answer}
use Rattle.file_reasons.specs.declared.answers.Answer.TheVariants as answers
use Rattle.file_reasons.specs.declared.reasons.FileCall.{FileCall}
use Rattle.file_reasons.specs.declared.reasons.FileCall.TheVariants.{Read, Write, Make}

-- what to do where there is no such file or folder: what makes a file needs the folder (own)
abbrev pub missing_fix : FileCall → List ℕ
missing_fix Make = codes "to do: correct the name, or make the folder in which the file is to be"
missing_fix Read = codes "to do: correct the name"
missing_fix _ = codes "to do: correct the name or put the file back; what vtl create makes is new and holds nothing"

-- what to do where the system does not allow it: what makes a file writes in the folder, and what reads all its bytes
-- only reads it (own)
abbrev pub denied_fix : FileCall → List ℕ
denied_fix Make = codes "to do: let this user write in the folder in which the file is to be"
denied_fix Read = codes "to do: let this user read the file"
denied_fix _ = codes "to do: let this user read and write the file"

-- what to do about an error of a device (own)
abbrev pub device_fix : List ℕ
device_fix = codes "to do: look at the device, and at what the system has logged of it"

-- what to do where a stream is not open; a file is open while it is used, and this answer is one of the device (own)
abbrev pub closed_fix : FileCall → List ℕ
closed_fix Read = codes "to do: start the program with this stream open"
closed_fix Write = codes "to do: start the program with this stream open"
closed_fix _ = device_fix

-- what to do about the error of this number; 9 is that of a stream which is not open, 24 that of a process which has as
-- many files open as it may (Linux, EBADF and EMFILE)
abbrev pub number_fix : FileCall → ℕ → List ℕ
number_fix call number = if number == 9 then closed_fix call
    else (if number == 24 then codes "to do: raise the limit on the files that a process may have open" else device_fix)

-- what to do about another error of the system, with its number where it has one (own)
abbrev pub other_fix : FileCall → Option ℤ → List ℕ
other_fix call (Some (pos number)) = number_fix call number
other_fix call (Some (negsuc number)) = device_fix
other_fix call None = device_fix

-- what to do about a call that had this answer (own)
abbrev pub fix_of : FileCall → Answer → List ℕ
fix_of call answers.Missing = missing_fix call
fix_of call answers.BadName = codes "to do: correct the name"
fix_of call answers.NotAFile = codes "to do: name a regular file"
fix_of call answers.Exists = codes "to do: choose another name"
fix_of call answers.InUse = codes "to do: end the other vtl that has it open, or name the file once"
fix_of call answers.Denied = denied_fix call
fix_of call answers.NoRoom = codes "to do: make room on the file system"
fix_of call answers.ReadOnly = codes "to do: mount the file system for writing"
fix_of call answers.Ended = codes "to do: find what made the file shorter while it was open"
fix_of call answers.TookNone = codes "to do: make room where the bytes go"
fix_of call answers.TooLarge = codes "to do: raise the limit on the length of files"
fix_of call answers.NoReader = codes "to do: let the program that reads it run to the end"
fix_of call answers.LongScript = codes "to do: run it in several parts"
fix_of call (answers.Other number) = other_fix call number
