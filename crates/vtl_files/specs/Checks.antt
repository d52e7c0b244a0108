-- What `vtl check` writes, and how it ends (own).
use Rattle.std.specs.Prelude.{◌≡◌, ◌≢◌, ◌⊎◌, ◌==◌, ◌||◌, ℕ, Bool, List, [], codes, Option, Result, Ok, Err, IfOk, IfErr, OnOk, if◌then◌else◌}
use Rattle.std.specs.List.{starts_with}
use Rattle.std.specs.Io.KnownBytes.{Appends}
use Rattle.std.specs.Io.KnownBytes as Known
use Rattle.vtl_base.specs.declared.faults.DevFault.{DevFault}
use Rattle.tape_disk.specs.Disk.{DiskCall, DiskState}
use Rattle.tape_disk.specs.TwoDisks.{AreHonest, KeepsDisks, MayLeave, TwoDisks, TwoLeave, seen_of_two}
use Rattle.file_disk.specs.declared.error.FileError.{FileError}
use Rattle.file_disk.specs.declared.error.FileError.TheVariants.{Missing}
use Rattle.cartridge.specs.Disks.{NoneOfTwo, OnlyOfTwo}
use Rattle.vtl_config.specs.FileNames.{second_name}
use Rattle.vtl_script.specs.Text.{AppendsPart}
use Rattle.vtl_faults.specs.declared.faults.Verdict.{Verdict}
use Rattle.vtl_faults.specs.declared.faults.Verdict.TheVariants.{Done, Refused}
use Rattle.vtl_faults.specs.declared.faults.VtlFault.{VtlFault}
use Rattle.vtl_faults.specs.declared.faults.VtlFault.TheVariants.{Device, NoMemory}
use Rattle.check_lines.specs.Reading.{HaveRead}
use Rattle.check_lines.specs.SideText.{IsNotShown, SideText}

-- lines say what a side holds (own)
abbrev pub is_done : List ℕ → Bool
is_done lines =
    starts_with (◌==◌) lines (codes "cartridge ") || starts_with (◌==◌) lines (codes "reservations ")

-- what the lines of a side say: what it holds, or why it gives nothing (own)
abbrev pub verdict_of : List ℕ → Verdict
verdict_of lines = if is_done lines then Done else Refused

-- Two disks were checked: the lines are those of what they give, or there are none, for a cause that holds; their bytes
-- are then sure, and at no moment a crash left anything new. Where blocks are to be read, there are lines of a
-- cartridge only where each of them was read to its end (own).
pub record LooksAt {D : Type 0} (state : D → DiskState)
    (effect : DiskCall → Result Unit DevFault → D → D → Type 0) (blocks : Bool) (old new : TwoDisks D)
    (lines : Result (List ℕ) VtlFault) : Type 0 where
  pub keeps : KeepsDisks state old new
  pub none_failed : OnOk lines (NoneOfTwo state old new)
  pub text : IfOk lines (λ text. AreHonest state old → SideText (seen_of_two state old) text × OnlyOfTwo state old new)
  pub read : OnOk lines (AreHonest state old → HaveRead state effect blocks old new)
  pub cause : IfErr lines (λ fault. IsNotShown state fault old new)
  pub any_moment : AreHonest state old → TwoLeave state old new (MayLeave state old)

-- the lines of a side were written, or a beginning of them, where the writer failed; where there are none, nothing was
-- written (own)
abbrev pub PrintsLines : Result (List ℕ) VtlFault → (before now : Option (List ℕ)) → Result Verdict VtlFault → Type 0
PrintsLines (Ok lines) before now (Ok verdict) = (verdict ≡ verdict_of lines) × Appends before now lines
PrintsLines (Ok lines) before now (Err fault) = (fault ≡ Device) × AppendsPart before now lines
PrintsLines (Err why) before now result = (result ≡ Err why) × Known.Keeps before now

module _ {D : Type 0} (state : D → DiskState) (opens_to_read : List ℕ → Result D FileError → Type 0) where
  -- a disk for reading the second file of this name: that of its opening; where the file is missing, one of no bytes
  -- (own)
  abbrev pub IsSecondRead : List ℕ → D → Type 0
  IsSecondRead name disk =
      opens_to_read name (Ok disk)
      ⊎ (opens_to_read name (Err Missing) × ((state disk).honest → (state disk).seen ≡ []))

  -- a second file of this name is there, and is not opened (own)
  abbrev pub IsSecondUnread : List ℕ → Type 0
  IsSecondUnread name = (error : FileError) × (error ≢ Missing) × opens_to_read name (Err error)

module _ {D : Type 0} (state : D → DiskState) (effect : DiskCall → Result Unit DevFault → D → D → Type 0)
    (opens_to_read : List ℕ → Result D FileError → Type 0) (closes : List ℕ → D → Type 0) (name : List ℕ)
    (blocks : Bool) where
  -- both files were opened, the second one by its name, or as one of no bytes where it is missing; their disks were
  -- checked and returned, and these are the lines of what they give (own)
  pub record LooksAtBoth (lines : Result (List ℕ) VtlFault) : Type 0 where
    pub disks : TwoDisks D
    pub first : opens_to_read name (Ok disks.first)
    pub second : IsSecondRead state opens_to_read (second_name name) disks.second
    pub last : TwoDisks D
    pub closed : closes name last.first × closes (second_name name) last.second
    pub looks : LooksAt state effect blocks disks last lines

  -- the first file was opened, and the second one is there and was not: the first one's disk was returned as it was
  -- opened (own)
  pub record LooksAtNeither : Type 0 where
    pub disk : D
    pub first : opens_to_read name (Ok disk)
    pub closed : closes name disk
    pub second : IsSecondUnread state opens_to_read (second_name name)

  -- The lines of a name: those of both files; or there are none, since one is not opened, or memory runs out before
  -- that (own).
  abbrev pub GivesLines : Result (List ℕ) VtlFault → Type 0
  GivesLines lines =
      LooksAtBoth lines
      ⊎ (((lines ≡ Err Device) × (((error : FileError) × opens_to_read name (Err error)) ⊎ LooksAtNeither))
      ⊎ (lines ≡ Err NoMemory))

  -- what `vtl check` does with a name: its lines are written, and where there are none, nothing (own)
  abbrev pub ChecksOrder : (before now : Option (List ℕ)) → Result Verdict VtlFault → Type 0
  ChecksOrder before now result =
      (lines : Result (List ℕ) VtlFault) × GivesLines lines × PrintsLines lines before now result
