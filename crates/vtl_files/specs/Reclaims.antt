-- What `vtl reclaim` does, and what it writes (own).
use Rattle.std.specs.Prelude.{◌≡◌, ◌≢◌, ◌⊎◌, ◌<◌, ◌≤◌, ◌-◌, ◌^◌, ◌==◌, ℕ, Bool, true, false, List, [], ◌∷◌, ◌++◌, bytes_eq, codes, decimal, Option, None, Some, Result, Ok, Err, IfOk, IfErr, OnOk, if◌then◌else◌}
use Rattle.std.specs.List.{find, starts_with}
use Rattle.std.specs.Io.KnownBytes.{Appends}
use Rattle.std.specs.Io.KnownBytes as Known
use Rattle.vtl_base.specs.declared.layout.TheConstants.{BEGUN_BYTES}
use Rattle.vtl_base.specs.declared.limits.TheConstants.{MAX_SIDE}
use Rattle.tape_disk.specs.Disk.{DiskState}
use Rattle.tape_disk.specs.TwoDisks.{AreHonest, EachOfTwo, Images, KeepsDisks, MayLeave, TwoDisks, TwoLeave, failures_of, seen_of_two}
use Rattle.file_disk.specs.declared.error.FileError.{FileError}
use Rattle.file_disk.specs.declared.error.FileError.TheVariants.{Missing}
use Rattle.file_disk.specs.declared.looking.FileLook.{FileLook}
use Rattle.gate_journal.specs.Heads.{epoch_of}
use Rattle.cartridge.specs.declared.error.CartridgeError.TheVariants as causes
use Rattle.cartridge.specs.declared.reclaiming.ReclaimError.{ReclaimError}
use Rattle.cartridge.specs.declared.reclaiming.ReclaimError.TheVariants.{Cartridge, EpochsSpent}
use Rattle.cartridge.specs.Contents.{Contents, GivesContents, IsBadFrameAt, IsDamagedPairAt, IsNoCartridge, volume_made}
use Rattle.cartridge.specs.Disks.{NoneOfTwo, UnwrittenTwo}
use Rattle.cartridge.specs.Reclaiming.{KeepsOldSide, LeavesVolume, StaysSure, copy_length, reclaimed_from}
use Rattle.tape_buffer.specs.Reclaiming.{FailsToCopy, GiveOnly, RebasesContents}
use Rattle.vtl_config.specs.declared.entries.CartridgeEntry.{CartridgeEntry}
use Rattle.vtl_config.specs.declared.entries.Config.{Config}
use Rattle.vtl_script.specs.Text.{AppendsPart}
use Rattle.check_lines.specs.SideText.{bad_record_line, damaged_line, not_a_side_line}
use Rattle.vtl_faults.specs.declared.faults.Verdict.{Verdict}
use Rattle.vtl_faults.specs.declared.faults.Verdict.TheVariants.{Done, Refused}
use Rattle.vtl_faults.specs.declared.faults.VtlFault.{VtlFault}
use Rattle.vtl_faults.specs.declared.faults.VtlFault.TheVariants.{Words, Config as BadConfig, Script, Frame, Device, NoMemory}

-- the line of a cartridge that was reclaimed: its name, and how often it was reclaimed so far (own)
abbrev pub reclaimed_line : List ℕ → ℕ → List ℕ
reclaimed_line barcode epoch = codes "reclaimed " ++ barcode ++ codes " epoch " ++ decimal epoch ++ 10 ∷ []

-- the line of a cartridge that has no room or no epoch for a copy (own)
abbrev pub not_reclaimed_line : List ℕ
not_reclaimed_line = codes "not reclaimed" ++ 10 ∷ []

-- Why a cartridge is not reclaimed, by the images of its two files, and the line for it. Its copy has no room, or its
-- epoch is the greatest; no side counts; or a frame of the side that counts is not whole, or spells no changes that
-- apply (own).
abbrev pub RefusalText : Images → List ℕ → Type 0
RefusalText images text =
    ((contents : Contents) × GivesContents contents images
    × ((MAX_SIDE < copy_length contents) ⊎ (epoch_of contents.head ≡ 2 ^ 64 - 1)) × (text ≡ not_reclaimed_line))
    ⊎ ((IsNoCartridge images × (text ≡ not_a_side_line))
    ⊎ (((at : ℕ) × IsDamagedPairAt images at × (text ≡ damaged_line at))
    ⊎ ((at : ℕ) × IsBadFrameAt images at × (text ≡ bad_record_line at))))

-- it is this line, or memory ran out (own)
abbrev pub IsLine : List ℕ → Result (List ℕ) VtlFault → Type 0
IsLine line (Ok text) = text ≡ line
IsLine line (Err fault) = fault ≡ NoMemory

-- the line for a cause why a cartridge is not reclaimed, or the fault for that cause (own)
abbrev pub PrintsCause : ReclaimError → Result (List ℕ) VtlFault → Type 0
PrintsCause EpochsSpent lines = IsLine not_reclaimed_line lines
PrintsCause (Cartridge causes.SideFull) lines = IsLine not_reclaimed_line lines
PrintsCause (Cartridge causes.NotOurs) lines = IsLine not_a_side_line lines
PrintsCause (Cartridge (causes.Damaged at)) lines = IsLine (damaged_line at) lines
PrintsCause (Cartridge (causes.BadRecord at)) lines = IsLine (bad_record_line at) lines
PrintsCause (Cartridge (causes.Device fault)) lines = lines ≡ Err Device
PrintsCause (Cartridge causes.Failed) lines = lines ≡ Err Device
PrintsCause (Cartridge causes.NoMemory) lines = lines ≡ Err NoMemory

module _ {D : Type 0} (state : D → DiskState) where
  -- A cartridge was reclaimed: its copy has room, whatever crash comes the disks give the copy of what a read gave
  -- before, which is the same volume, and the line has the epoch of the copy. Where whatever crash came they gave what
  -- a read gave, it is a change of base (own).
  pub record IsReclaimed (barcode : List ℕ) (old new : TwoDisks D) (text : List ℕ) : Type 0 where
    pub contents : Contents
    pub gave : GivesContents contents (seen_of_two state old)
    pub fits : copy_length contents ≤ MAX_SIDE
    pub gives : EachOfTwo state new (GivesContents (reclaimed_from contents))
    pub same : volume_made (reclaimed_from contents) ≡ volume_made contents
    pub sides : EachOfTwo state new (KeepsOldSide contents (seen_of_two state old))
    pub rebases : EachOfTwo state old (GivesContents contents)
        → RebasesContents state contents (reclaimed_from contents) old new
    pub line : text ≡ reclaimed_line barcode (epoch_of (reclaimed_from contents).head)

  -- why there is no line: a call of one of the disks failed, and with it a change of base; or memory ran out, none did,
  -- and nothing was written (own)
  abbrev pub IsNotPrinted : VtlFault → TwoDisks D → TwoDisks D → Type 0
  IsNotPrinted Device old new =
      (failures_of state old < failures_of state new)
      × ((contents : Contents) → GiveOnly state contents old → FailsToCopy state contents old new)
  IsNotPrinted NoMemory old new = NoneOfTwo state old new × (AreHonest state old → UnwrittenTwo state old new)
  IsNotPrinted Words old new = ⊥
  IsNotPrinted BadConfig old new = ⊥
  IsNotPrinted (Script line) old new = ⊥
  IsNotPrinted (Frame number) old new = ⊥

  -- a cartridge is not reclaimed for the cause that its line says; nothing was written, and what stands there is sure
  -- (own)
  abbrev pub RefusesUntouched : TwoDisks D → TwoDisks D → List ℕ → Type 0
  RefusesUntouched old new text = RefusalText (seen_of_two state old) text × StaysSure state old new

  -- Two disks were reclaimed as the cartridge with this name. The lines say that it was reclaimed, or why it was not,
  -- or there are none, for a cause that holds. At every moment a crash leaves what it might have left before, or what
  -- gives the volume that stood there (own).
  pub record Reclaims (barcode : List ℕ) (old new : TwoDisks D) (lines : Result (List ℕ) VtlFault) : Type 0 where
    pub keeps : KeepsDisks state old new
    pub none_failed : OnOk lines (NoneOfTwo state old new)
    pub text : IfOk lines (λ text. AreHonest state old →
        IsReclaimed barcode old new text ⊎ RefusesUntouched old new text)
    pub cause : IfErr lines (λ fault. IsNotPrinted fault old new)
    pub any_moment : AreHonest state old →
        TwoLeave state old new (LeavesVolume (MayLeave state old) (seen_of_two state old))

-- what the line of a reclaim says: that it is done, or why it is not (own)
abbrev pub verdict_shown : List ℕ → Verdict
verdict_shown lines = if starts_with (◌==◌) lines (codes "reclaimed ") then Done else Refused

-- the line of a reclaim was written, or a beginning of it, where the writer failed; where there is none, nothing was
-- written (own)
abbrev pub PrintsReclaim :
    Result (List ℕ) VtlFault → (before now : Option (List ℕ)) → Result Verdict VtlFault → Type 0
PrintsReclaim (Ok lines) before now (Ok verdict) = (verdict ≡ verdict_shown lines) × Appends before now lines
PrintsReclaim (Ok lines) before now (Err fault) = (fault ≡ Device) × AppendsPart before now lines
PrintsReclaim (Err why) before now result = (result ≡ Err why) × Known.Keeps before now

-- the cartridge of a configuration that has this barcode, if there is one (own)
abbrev pub entry_with : List ℕ → List CartridgeEntry → Option CartridgeEntry
entry_with barcode entries = find (λ entry. bytes_eq entry.barcode barcode) entries

-- The bytes of a second file at most that a reclaim writes over behind a closed pair gate: those that it writes itself
-- before it opens that gate (own).
abbrev pub spare_bytes : ℕ
spare_bytes = BEGUN_BYTES

module _ (looks : List ℕ → Result FileLook FileError → Type 0) (pairs : List ℕ → Result Bool FileError → Type 0)
    (file second_file : List ℕ) where
  -- A reclaim may open the second file: the first one's pair gate is open, or it is closed, and the second file is
  -- missing, or is no link's and has ten bytes at most (own).
  abbrev pub MayOpen : (paired : Bool) → Type 0
  MayOpen true = pairs file (Ok true)
  MayOpen false =
      pairs file (Ok false)
      × (looks second_file (Err Missing)
      ⊎ ((found : FileLook) × looks second_file (Ok found) × (found.is_link ≡ false) × (found.bytes ≤ spare_bytes)))

  -- A second file is somebody else's: behind a closed pair gate its name is a link's, or it has more than ten bytes
  -- (own).
  abbrev pub IsKeptBack : Type 0
  IsKeptBack =
      pairs file (Ok false)
      × ((found : FileLook) × looks second_file (Ok found)
      × ((found.is_link ≡ true) ⊎ (spare_bytes < found.bytes)))

  -- the pair gate could not be looked at, or is closed, and the second file could not be (own)
  abbrev pub IsUnseen : Type 0
  IsUnseen =
      ((error : FileError) × pairs file (Err error))
      ⊎ (pairs file (Ok false) × ((error : FileError) × (error ≢ Missing) × looks second_file (Err error)))

  -- what a reclaim does with the second file: it opens it, for a pair gate that is open or closed, or keeps it back
  -- (own)
  abbrev pub SeesPair : Option Bool → Type 0
  SeesPair (Some paired) = MayOpen paired
  SeesPair None = IsKeptBack

module _ {D : Type 0} (state : D → DiskState) (opens_second : Bool → List ℕ → Result D FileError → Type 0)
    (returns_disk closes_second : List ℕ → D → Type 0) (barcode : List ℕ) where
  module _ (file : List ℕ) (first : D) (second_file : List ℕ) (paired : Bool) where
    -- the second file of a cartridge was opened beside the first one, and both were reclaimed under this name; their
    -- disks were returned, and the line is written (own)
    pub record ReclaimsBoth (before now : Option (List ℕ)) (result : Result Verdict VtlFault) : Type 0 where
      pub second : D
      pub opened : opens_second paired second_file (Ok second)
      pub last : TwoDisks D
      pub closed : returns_disk file last.first × closes_second second_file last.second
      pub lines : Result (List ℕ) VtlFault
      pub reclaims : Reclaims state barcode (record { first = first; second = second }) last lines
      pub prints : PrintsReclaim lines before now result

    -- both files were reclaimed; or the second one was not opened, the first one's disk was returned as it was opened,
    -- and nothing is written (own)
    abbrev pub ReclaimsOpened : (before now : Option (List ℕ)) → Result Verdict VtlFault → Type 0
    ReclaimsOpened before now result =
        ReclaimsBoth before now result
        ⊎ ((result ≡ Err Device) × Known.Keeps before now × returns_disk file first
        × ((error : FileError) × opens_second paired second_file (Err error)))

module _ {D : Type 0} (state : D → DiskState) (looks : List ℕ → Result FileLook FileError → Type 0)
    (pairs : List ℕ → Result Bool FileError → Type 0) (opens : List ℕ → Result D FileError → Type 0)
    (opens_second : Bool → List ℕ → Result D FileError → Type 0)
    (returns_disk closes_second : List ℕ → D → Type 0) (barcode : List ℕ) where
  -- a cartridge is not reclaimed, since its second file is somebody else's: the first one's disk was returned as it was
  -- opened, and the line says so (own)
  abbrev pub ReclaimsNone : CartridgeEntry → (first : D) → (before now : Option (List ℕ)) → Result Verdict VtlFault
      → Type 0
  ReclaimsNone entry first before now result =
      IsKeptBack looks pairs entry.file entry.second_file × returns_disk entry.file first
      × ((lines : Result (List ℕ) VtlFault) × IsLine not_reclaimed_line lines × PrintsReclaim lines before now result)

  -- what is done with a cartridge whose first file was opened: it is reclaimed over both files, or the second one is
  -- kept back; or they could not be looked at, and nothing is written (own)
  abbrev pub ReclaimsOver : CartridgeEntry → (first : D) → (before now : Option (List ℕ)) → Result Verdict VtlFault
      → Type 0
  ReclaimsOver entry first before now result =
      ((paired : Bool) × MayOpen looks pairs entry.file entry.second_file paired
      × ReclaimsOpened state opens_second returns_disk closes_second barcode entry.file first entry.second_file paired
      before now result)
      ⊎ (ReclaimsNone entry first before now result
      ⊎ ((result ≡ Err Device) × Known.Keeps before now × returns_disk entry.file first
      × IsUnseen looks pairs entry.file entry.second_file))

  -- what is done with the cartridge that was named; where its first file is not opened, or there is no such cartridge,
  -- so that the words are refused, nothing is written (own)
  abbrev pub ReclaimsEntry :
      Option CartridgeEntry → (before now : Option (List ℕ)) → Result Verdict VtlFault → Type 0
  ReclaimsEntry (Some entry) before now result =
      ((first : D) × opens entry.file (Ok first) × ReclaimsOver entry first before now result)
      ⊎ ((result ≡ Err Device) × Known.Keeps before now × ((error : FileError) × opens entry.file (Err error)))
  ReclaimsEntry None before now result = (result ≡ Err Words) × Known.Keeps before now

  -- the cartridge of a configuration that has the barcode is reclaimed; where there is no configuration, nothing is
  -- opened or written (own)
  abbrev pub ReclaimsNamed :
      Result Config VtlFault → (before now : Option (List ℕ)) → Result Verdict VtlFault → Type 0
  ReclaimsNamed (Ok config) before now result =
      ReclaimsEntry (entry_with barcode config.cartridges.items) before now result
  ReclaimsNamed (Err fault) before now result = (result ≡ Err fault) × Known.Keeps before now
