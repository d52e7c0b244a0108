-- What `vtl check` of a configuration writes, and how it ends (own).
use Rattle.std.specs.Prelude.{◌≡◌, ◌⊎◌, ◌==◌, ◌&&◌, ℕ, Bool, true, not, List, [], ◌∷◌, ◌++◌, codes, Option, Result, Ok, Err, if◌then◌else◌}
use Rattle.std.specs.List.{starts_with}
use Rattle.std.specs.Io.{StartsWith}
use Rattle.std.specs.Io.KnownBytes.{Appends}
use Rattle.vtl_base.specs.declared.faults.DevFault.{DevFault}
use Rattle.tape_disk.specs.Disk.{DiskCall, DiskState}
use Rattle.file_disk.specs.declared.error.FileError.{FileError}
use Rattle.vtl_files.specs.Checks.{GivesLines, is_done, verdict_of}
use Rattle.vtl_files.specs.Creating.{SideFile, CartridgeFile, StoreFile, label_of}
use Rattle.vtl_faults.specs.declared.faults.Verdict.{Verdict}
use Rattle.vtl_faults.specs.declared.faults.Verdict.TheVariants.{Done, Refused}
use Rattle.vtl_faults.specs.declared.faults.VtlFault.{VtlFault}
use Rattle.vtl_faults.specs.declared.faults.VtlFault.TheVariants.{Device, NoMemory}

-- the word with which the lines of a cartridge begin (own)
abbrev pub cartridge_word : List ℕ
cartridge_word = codes "cartridge "

-- the word with which the line of a store begins (own)
abbrev pub store_word : List ℕ
store_word = codes "reservations "

-- the name of a file of a configuration; a cartridge's is that of its first file (own)
abbrev pub path_of : SideFile → List ℕ
path_of (CartridgeFile entry) = entry.file
path_of (StoreFile entry) = entry.reservations

-- the word of the file of an entry (own)
abbrev pub word_of : SideFile → List ℕ
word_of (CartridgeFile entry) = cartridge_word
word_of (StoreFile entry) = store_word

-- the line that names a file: its label and its name, as the configuration says it (own)
abbrev pub name_line : (label path : List ℕ) → List ℕ
name_line label path = label ++ 32 ∷ path ++ 10 ∷ []

-- how the lines of the side begin that the configuration names (own)
abbrev pub expected_start : (word label : List ℕ) → List ℕ
expected_start word label = word ++ label ++ 32 ∷ []

-- lines say what a side holds, and it is another one than the configuration names, by its kind or its header (own)
abbrev pub is_other : (word label lines : List ℕ) → Bool
is_other word label lines = is_done lines && not (starts_with (◌==◌) lines (expected_start word label))

-- the line of such a side: what it is in the configuration (own)
abbrev pub configured_line : (word label : List ℕ) → List ℕ
configured_line word label = codes "configured as " ++ word ++ label ++ 10 ∷ []

-- What is written of a file behind its name: its lines, and what it is in the configuration where they are of another
-- side; or which fault came (own).
abbrev pub check_report : (word label : List ℕ) → Result (List ℕ) VtlFault → List ℕ
check_report word label (Ok lines) =
    if is_other word label lines then lines ++ configured_line word label else lines
check_report word label (Err NoMemory) = codes "out of memory" ++ 10 ∷ []
check_report word label (Err _) = codes "device fault" ++ 10 ∷ []

-- how the check of a file ends: it is done where the lines say what a side of this kind holds (own)
abbrev pub end_for : List ℕ → Result (List ℕ) VtlFault → Result Verdict VtlFault
end_for word (Ok lines) = Ok (if starts_with (◌==◌) lines word then Done else Refused)
end_for word (Err fault) = Err fault

-- how the check of two files ends: as that of the first that is not done (own)
abbrev pub first_end : Result Verdict VtlFault → Result Verdict VtlFault → Result Verdict VtlFault
first_end (Ok Done) next = next
first_end (Ok Refused) next = Ok Refused
first_end (Err fault) next = Err fault

module _ {D : Type 0} (state : D → DiskState) (effect : DiskCall → Result Unit DevFault → D → D → Type 0)
    (opens_to_read : List ℕ → Result D FileError → Type 0) (closes : List ℕ → D → Type 0) where
  -- a file was checked, each block of a cartridge too: this is written of it, and the check ends so (own)
  abbrev pub IsChecked : (word label path : List ℕ) → (text : List ℕ) → Result Verdict VtlFault → Type 0
  IsChecked word label path text end =
      (lines : Result (List ℕ) VtlFault) × GivesLines state effect opens_to_read closes path true lines
      × (text ≡ name_line label path ++ check_report word label lines) × (end ≡ end_for word lines)

  -- Of a file no more is written. Memory ran out for its name, so nothing is, or for what is written behind that. Or
  -- the writer failed, and a beginning of what was to be written of it is (own).
  abbrev pub IsCutShort : (word label path : List ℕ) → VtlFault → List ℕ → Type 0
  IsCutShort word label path fault part =
      ((fault ≡ NoMemory) × ((part ≡ []) ⊎ (part ≡ name_line label path)))
      ⊎ ((fault ≡ Device)
      × (StartsWith (name_line label path) part
      ⊎ ((text : List ℕ) × (end : Result Verdict VtlFault) × IsChecked word label path text end
      × StartsWith text part)))

  -- what the check of a file writes (own)
  abbrev pub ChecksNamed : (word label path : List ℕ) → (before now : Option (List ℕ))
      → Result (Result Verdict VtlFault) VtlFault → Type 0
  ChecksNamed word label path before now (Ok end) =
      (text : List ℕ) × IsChecked word label path text end × Appends before now text
  ChecksNamed word label path before now (Err fault) =
      (part : List ℕ) × IsCutShort word label path fault part × Appends before now part

  -- each of these files was checked, in order: this is written of them, and the check ends as that of the first one
  -- that is not done (own)
  abbrev pub AreChecked : List SideFile → List ℕ → Result Verdict VtlFault → Type 0
  AreChecked [] text end = (text ≡ []) × (end ≡ Ok Done)
  AreChecked (file ∷ behind) text end =
      (here : List ℕ) × (this : Result Verdict VtlFault)
      × IsChecked (word_of file) (label_of file) (path_of file) here this
      × ((rest : List ℕ) × (next : Result Verdict VtlFault) × AreChecked behind rest next × (text ≡ here ++ rest)
      × (end ≡ first_end this next))

  -- the first of these files were checked, and of the next one no more is written, for this fault (own)
  pub record AreCutShort (all : List SideFile) (fault : VtlFault) (text : List ℕ) : Type 0 where
    pub before : List SideFile
    pub file : SideFile
    pub behind : List SideFile
    pub are : all ≡ before ++ file ∷ behind
    pub lines : List ℕ
    pub end : Result Verdict VtlFault
    pub checked : AreChecked before lines end
    pub part : List ℕ
    pub fails : IsCutShort (word_of file) (label_of file) (path_of file) fault part
    pub is : text ≡ lines ++ part

  -- what the check of these files writes: of each, or up to where the writer failed, or memory ran out for a line (own)
  abbrev pub ChecksAll : List SideFile → (before now : Option (List ℕ))
      → Result (Result Verdict VtlFault) VtlFault → Type 0
  ChecksAll all before now (Ok end) = (text : List ℕ) × AreChecked all text end × Appends before now text
  ChecksAll all before now (Err fault) = (text : List ℕ) × AreCutShort all fault text × Appends before now text

  -- how the program ends for that (own)
  abbrev pub ChecksConfig : List SideFile → (before now : Option (List ℕ)) → Result Verdict VtlFault → Type 0
  ChecksConfig all before now result =
      ChecksAll all before now (Ok result)
      ⊎ ((fault : VtlFault) × (result ≡ Err fault) × ChecksAll all before now (Err fault))
