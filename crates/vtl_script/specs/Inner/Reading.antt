-- How far a script was read (own).
use Rattle.std.specs.Prelude.{◌≡◌, ℕ, ◌+◌, ◌-◌, ◌<◌, ◌≤◌, ◌==◌, ◌||◌, nat_le, nat_lt, Bool, List, [], ◌++◌, length, take, drop, position, Option, Some, None, is_some, Result, Ok, Err}
use Rattle.std.specs.Io.KnownBytes.{Consumes, IsAtEnd}
use Rattle.vtl_base.specs.declared.limits.TheConstants.{SCRIPT_BYTES, SCRIPT_READS, LINE_BYTES}
use Rattle.vtl_script.specs.declared.faults.ScriptFault.{ScriptFault}
use Rattle.vtl_script.specs.declared.line_readers.Found.{Found}
use Rattle.vtl_script.specs.declared.line_readers.Found.TheVariants.{Line, Last, TooLong}

-- how far a script was read, as a contract sees it (own)
pub record LineReading : Type 0 where
  pub unread : List ℕ  -- the bytes that came, but for those of the lines that were taken up
  pub bytes : ℕ  -- the bytes that came
  pub reads : ℕ  -- the reads that brought them
  pub lines : ℕ  -- the lines that were taken up

-- at the start (own)
abbrev pub unbegun : LineReading
unbegun = record { unread = []; bytes = 0; reads = 0; lines = 0 }

-- the bytes that may still be taken up (own)
abbrev pub work_left : LineReading → ℕ
work_left reading = (SCRIPT_BYTES + length reading.unread) - reading.bytes

-- whether a script of this many bytes is within its limit (own)
abbrev pub is_within_bytes : ℕ → Bool
is_within_bytes bytes = nat_le bytes SCRIPT_BYTES

-- whether a script that took this many reads may take one more (own)
abbrev pub may_read : ℕ → Bool
may_read reads = nat_lt reads SCRIPT_READS

-- how many bytes a read gave: none where it failed or was interrupted (own)
abbrev pub bytes_read : Result (Option ℕ) ScriptFault → ℕ
bytes_read (Ok (Some count)) = count
bytes_read (Ok None) = 0
bytes_read (Err fault) = 0

-- the bytes from one place up to another (own)
abbrev pub part : ℕ → ℕ → List ℕ → List ℕ
part start filled bytes = drop start (take filled bytes)

-- this many bytes came from a reader that knew the bytes `left`, and stand after the others (own)
pub record BringsBytes (left : Option (List ℕ)) (old : List ℕ) (left' : Option (List ℕ)) (new : List ℕ) (count : ℕ)
    : Type 0 where
  pub read : List ℕ
  pub taken : Consumes left left' read
  pub unread : new ≡ old ++ read
  pub count_is : length read ≡ count

-- some bytes came from a reader that knew the bytes `left`, and stand after the others (own)
pub record Comes (left : Option (List ℕ)) (old : LineReading)
    (left' : Option (List ℕ)) (new : LineReading) : Type 0 where
  pub read : List ℕ
  pub taken : Consumes left left' read
  pub unread : new.unread ≡ old.unread ++ read
  pub bytes : new.bytes ≡ old.bytes + length read
  pub reads : old.reads ≤ new.reads
  pub lines : new.lines ≡ old.lines

-- whether bytes show where the first line ends: they have its line feed, or are more than it may have (own)
abbrev pub shows_end : List ℕ → Bool
shows_end unread = is_some (position (λ byte. byte == 10) unread) || nat_lt LINE_BYTES (length unread)

-- where the first line ends: at its line feed, with the text, or not within its limit (own)
abbrev pub LineEnds : Found → List ℕ → Option (List ℕ) → Type 0
LineEnds (Line count) unread left = position (λ byte. byte == 10) unread ≡ Some count
LineEnds Last unread left = (position (λ byte. byte == 10) unread ≡ None) × IsAtEnd left
LineEnds TooLong unread left = (position (λ byte. byte == 10) unread ≡ None) × (LINE_BYTES < length unread)
