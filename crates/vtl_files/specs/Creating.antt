-- What `vtl create` makes of the files of a configuration, and what it reports (own).
use Rattle.std.specs.Prelude.{◌≡◌, ◌≢◌, ◌⊎◌, ◌<◌, ℕ, Bool, true, false, List, [], ◌∷◌, ◌++◌, map, codes, decimal, Option, None, Some, Result, Ok, Err}
use Rattle.std.specs.Io.{StartsWith}
use Rattle.std.specs.Io.KnownBytes.{Appends, Keeps}
use Rattle.tape_disk.specs.Disk.{DiskState, Each}
use Rattle.file_disk.specs.declared.error.FileError.{FileError}
use Rattle.file_disk.specs.declared.error.FileError.TheVariants.{Exists, Missing}
use Rattle.file_disk.specs.declared.looking.FileLook.{FileLook}
use Rattle.gate_journal.specs.Answers.{NoneFailed}
use Rattle.tape_disk.specs.TwoDisks.{EachOfTwo, TwoDisks}
use Rattle.gate_journal.specs.Side.{CLOSED, Heading, plain, spell}
use Rattle.cartridge_sides.specs.declared.which.Which.TheVariants.{First}
use Rattle.cartridge.specs.Contents.{Contents, GivesContents, contents_from, heading_with, plain_head}
use Rattle.aptpl_store.specs.Contents.{GivesStates, heading_for}
use Rattle.vtl_script.specs.Text.{AppendsPart}
use Rattle.vtl_config.specs.declared.entries.CartridgeEntry.{CartridgeEntry}
use Rattle.vtl_config.specs.declared.entries.DriveEntry.{DriveEntry}
use Rattle.vtl_config.specs.declared.entries.Config.{Config}
use Rattle.vtl_files.specs.declared.creating.Fate.{Fate}
use Rattle.vtl_files.specs.declared.creating.Fate.TheVariants.{Created, Kept}
use Rattle.vtl_faults.specs.declared.faults.VtlFault.{VtlFault}
use Rattle.vtl_faults.specs.declared.faults.VtlFault.TheVariants as Faults

-- a file of a configuration: that of a cartridge, or that of a drive's reservations (own)
pub data SideFile : Type 0 where
  CartridgeFile : (entry : CartridgeEntry) → SideFile
  StoreFile : (entry : DriveEntry) → SideFile

-- the files of a configuration: cartridges, then drives, each in order (own)
abbrev pub files_of : Config → List SideFile
files_of config = map CartridgeFile config.cartridges.items ++ map StoreFile config.drives.items

-- the label of a file in reports: a cartridge's is its barcode, a drive's is `DRIVE` and its number (own)
abbrev pub label_of : SideFile → List ℕ
label_of (CartridgeFile entry) = entry.barcode
label_of (StoreFile entry) = codes "DRIVE" ++ decimal entry.number

-- the bytes of a new side with this heading: the heading, a closed gate, and nothing behind (own)
abbrev pub new_bytes : Heading → List ℕ
new_bytes heading = spell (plain heading) [] ++ CLOSED ∷ []

-- what a new cartridge of an entry holds: its first side counts, with its barcode and its capacities, and has no object
-- (own)
abbrev pub new_contents : CartridgeEntry → Contents
new_contents entry = contents_from First (plain_head (heading_with entry.barcode entry.capacities)) []

-- a disk was made the store of an entry's drive, where nothing was saved: no call of it failed, it has just its bytes,
-- and whatever crash comes it has this store (own)
pub record HasNewStore (entry : DriveEntry) (old new : DiskState) : Type 0 where
  pub none_failed : NoneFailed old new
  pub bytes : old.honest → new.seen ≡ new_bytes (heading_for entry.number)
  pub sure : old.honest → Each new (GivesStates (heading_for entry.number) [])

-- two disks were made a new cartridge of an entry: no call of the first one failed, and it has just its bytes; the
-- second one was not touched; and whatever crash comes they give this cartridge (own)
pub record HasNewPair {D : Type 0} (state : D → DiskState) (entry : CartridgeEntry) (old new : TwoDisks D) :
    Type 0 where
  pub rests : new.second ≡ old.second
  pub none_failed : NoneFailed (state old.first) (state new.first)
  pub bytes : (state old.first).honest
      → (state new.first).seen ≡ new_bytes (heading_with entry.barcode entry.capacities)
  pub sure : (state old.first).honest → EachOfTwo state new (GivesContents (new_contents entry))

-- the word for what became of a file (own)
abbrev pub fate_word : Fate → List ℕ
fate_word Created = codes "created "
fate_word Kept = codes "kept "

-- the line of a file: what became of it, and its label (own)
abbrev pub fate_line : List ℕ → Fate → List ℕ
fate_line label fate = fate_word fate ++ label ++ 10 ∷ []

-- why a line was not written: memory ran out before it; or the writer failed, and a beginning of it was written (own)
abbrev pub IsNotOut : List ℕ → Option (List ℕ) → Option (List ℕ) → VtlFault → Type 0
IsNotOut line before now Faults.NoMemory = Keeps before now
IsNotOut line before now Faults.Device = AppendsPart before now line
IsNotOut line before now Faults.Words = ⊥
IsNotOut line before now Faults.Config = ⊥
IsNotOut line before now (Faults.Script number) = ⊥
IsNotOut line before now (Faults.Frame number) = ⊥

-- a file of this name was made, or something has the name, or the system refused it otherwise (own)
abbrev pub IsNewFile : {D : Type 0} → (List ℕ → Result D FileError → Type 0) → List ℕ
    → Result (Option (List ℕ × D)) VtlFault → Type 0
IsNewFile makes name (Ok (Some made)) = (made.0 ≡ name) × makes name (Ok made.1)
IsNewFile makes name (Ok None) = makes name (Err Exists)
IsNewFile makes name (Err fault) =
    (fault ≡ Faults.Device) × ((error : FileError) × (error ≢ Exists) × makes name (Err error))

module _ (looks : List ℕ → Result FileLook FileError → Type 0) where
  -- nothing has the name of a second file, or a file without a byte (own)
  abbrev pub IsSecondFree : List ℕ → Type 0
  IsSecondFree name = looks name (Err Missing) ⊎ ((found : FileLook) × looks name (Ok found) × (found.bytes ≡ 0))

  -- a second file has a byte, or what has its name could not be looked at (own)
  abbrev pub IsSecondTaken : List ℕ → Type 0
  IsSecondTaken name =
      ((found : FileLook) × looks name (Ok found) × (0 < found.bytes))
      ⊎ ((error : FileError) × (error ≢ Missing) × looks name (Err error))

  -- the first file of a cartridge is missing, and its second one has no byte (own)
  abbrev pub AreFree : (file second_file : List ℕ) → Type 0
  AreFree file second_file = looks file (Err Missing) × IsSecondFree second_file

  -- the names are free, or a regular file has the first one (own)
  abbrev pub AreSeen : (file second_file : List ℕ) → Bool → Type 0
  AreSeen file second_file true = AreFree file second_file
  AreSeen file second_file false = (found : FileLook) × looks file (Ok found)

  -- why a cartridge is not made under these names: what has the first one could not be looked at; or the first file is
  -- missing, and its second one has a byte, or could not be looked at (own)
  abbrev pub AreNotFree : (file second_file : List ℕ) → Type 0
  AreNotFree file second_file =
      ((error : FileError) × (error ≢ Missing) × looks file (Err error))
      ⊎ (looks file (Err Missing) × IsSecondTaken second_file)

-- The answers that the calls of a creation may have, by the names of files, and the disks that are returned (own).
pub record MakeAnswers (D : Type 0) : Type 1 where
  -- a name is looked at
  pub looks : List ℕ → Result FileLook FileError → Type 0
  -- a missing file is made, and its disk is returned, with the file or to have it taken away
  pub makes : List ℕ → Result D FileError → Type 0
  pub leaves : List ℕ → D → Type 0
  pub takes_away : List ℕ → D → Type 0
  -- a second file is opened, or made with no bytes where it is missing and the first one's pair gate is not open, and
  -- its disk is returned
  pub opens_second : Bool → List ℕ → Result D FileError → Type 0
  pub closes_second : List ℕ → D → Type 0

-- the answers of these calls (own)
abbrev pub makes_of : {D : Type 0} → (looks : List ℕ → Result FileLook FileError → Type 0)
    → (makes : List ℕ → Result D FileError → Type 0) → (leaves takes_away : List ℕ → D → Type 0)
    → (opens_second : Bool → List ℕ → Result D FileError → Type 0) → (closes_second : List ℕ → D → Type 0)
    → MakeAnswers D
makes_of looks makes leaves takes_away opens_second closes_second = record {
  looks = looks;
  makes = makes;
  leaves = leaves;
  takes_away = takes_away;
  opens_second = opens_second;
  closes_second = closes_second;
}

module _ {D : Type 0} (state : D → DiskState) (files : MakeAnswers D) where
  -- a cartridge was made under names that were found free: its first file, and on it and the second one a new
  -- cartridge; both disks were returned (own)
  abbrev pub IsMadePair : CartridgeEntry → Type 0
  IsMadePair entry =
      AreFree files.looks entry.file entry.second_file
      × (first second : D) × files.makes entry.file (Ok first) × files.opens_second false entry.second_file (Ok second)
      × ((last : TwoDisks D) × files.leaves entry.file last.first × files.closes_second entry.second_file last.second
      × HasNewPair state entry (record { first = first; second = second }) last)

  -- what became of a file: it was made, and what was returned is a new side; or there is one of its name. The first
  -- file of a cartridge is then seen by a look, or by an attempt to make it (own)
  abbrev pub IsMadeOrKept : SideFile → Fate → Type 0
  IsMadeOrKept (CartridgeFile entry) Created = IsMadePair entry
  IsMadeOrKept (StoreFile entry) Created =
      (disk : D) × files.makes entry.reservations (Ok disk)
      × ((last : D) × files.leaves entry.reservations last × HasNewStore entry (state disk) (state last))
  IsMadeOrKept (CartridgeFile entry) Kept =
      ((found : FileLook) × files.looks entry.file (Ok found)) ⊎ files.makes entry.file (Err Exists)
  IsMadeOrKept (StoreFile entry) Kept = files.makes entry.reservations (Err Exists)

  -- a missing file was not made, since the system refused it (own)
  abbrev pub IsRefusedFile : List ℕ → Type 0
  IsRefusedFile name = (error : FileError) × (error ≢ Exists) × files.makes name (Err error)

  -- a new file was made, and its disk was returned for removing the file (own)
  abbrev pub IsTakenAway : List ℕ → (D → D → Type 0) → Type 0
  IsTakenAway name ends =
      (disk : D) × files.makes name (Ok disk) × ((last : D) × files.takes_away name last × ends disk last)

  -- the second file was neither opened nor made (own)
  abbrev pub IsSecondRefused : List ℕ → Type 0
  IsSecondRefused name = (error : FileError) × files.opens_second false name (Err error)

  -- the second file was opened or made, and its disk was closed as it was (own)
  abbrev pub IsSecondLeft : List ℕ → Type 0
  IsSecondLeft name = (second : D) × files.opens_second false name (Ok second) × files.closes_second name second

  -- the first file of a cartridge was not made, though its names were found free: the system refused it, or the second
  -- one; or a call of its disk failed (own)
  abbrev pub IsUnfinishedPair : CartridgeEntry → Type 0
  IsUnfinishedPair entry =
      IsRefusedFile entry.file
      ⊎ ((IsTakenAway entry.file (λ disk last. last ≡ disk) × IsSecondRefused entry.second_file)
      ⊎ (IsTakenAway entry.file (λ disk last. (state disk).failures < (state last).failures)
      × IsSecondLeft entry.second_file))

  -- why a missing file was not made: the names of a cartridge are not free; the system refused it, or the second one;
  -- or a call of its disk failed, or memory ran out and none did; and a file that was made is removed (own)
  abbrev pub IsNotMade : SideFile → VtlFault → Type 0
  IsNotMade (CartridgeFile entry) Faults.Device =
      AreNotFree files.looks entry.file entry.second_file
      ⊎ (AreFree files.looks entry.file entry.second_file × IsUnfinishedPair entry)
  IsNotMade (StoreFile entry) Faults.Device =
      IsRefusedFile entry.reservations
      ⊎ IsTakenAway entry.reservations (λ disk last. (state disk).failures < (state last).failures)
  IsNotMade (CartridgeFile entry) Faults.NoMemory =
      AreFree files.looks entry.file entry.second_file
      × IsTakenAway entry.file (λ disk last. (state last).failures ≡ (state disk).failures)
      × IsSecondLeft entry.second_file
  IsNotMade (StoreFile entry) Faults.NoMemory =
      IsTakenAway entry.reservations (λ disk last. (state last).failures ≡ (state disk).failures)
  IsNotMade file Faults.Words = ⊥
  IsNotMade file Faults.Config = ⊥
  IsNotMade file (Faults.Script line) = ⊥
  IsNotMade file (Faults.Frame number) = ⊥

module _ {D : Type 0} (state : D → DiskState) (files : MakeAnswers D) where
  -- a fault came at a file, with this much of its line written: it was not made; or memory ran out before its line; or
  -- the writer failed in it (own)
  abbrev pub FailsAt : SideFile → VtlFault → List ℕ → Type 0
  FailsAt file fault part =
      (IsNotMade state files file fault × (part ≡ []))
      ⊎ ((fate : Fate) × IsMadeOrKept state files file fate
      × (((fault ≡ Faults.NoMemory) × (part ≡ []))
      ⊎ ((fault ≡ Faults.Device) × StartsWith (fate_line (label_of file) fate) part)))

  -- the text has a line for each of these files, in order: what became of it (own)
  abbrev pub PrintsAll : List SideFile → List ℕ → Type 0
  PrintsAll [] text = text ≡ []
  PrintsAll (file ∷ behind) text =
      (fate : Fate) × IsMadeOrKept state files file fate
      × ((rest : List ℕ) × (text ≡ fate_line (label_of file) fate ++ rest) × PrintsAll behind rest)

  -- the text has a line for each of the first of these files, in order, and at the next one this fault came (own)
  pub record PrintsSome (all : List SideFile) (fault : VtlFault) (text : List ℕ) : Type 0 where
    pub before : List SideFile
    pub file : SideFile
    pub behind : List SideFile
    pub are : all ≡ before ++ file ∷ behind
    pub lines : List ℕ
    pub printed : PrintsAll before lines
    pub part : List ℕ
    pub fails : FailsAt file fault part
    pub is : text ≡ lines ++ part

  -- what is made and reported of these files: of all, or up to the one at which a fault came (own)
  abbrev pub PrintsFiles : List SideFile → Option (List ℕ) → Option (List ℕ) → Result (Unit {0}) VtlFault → Type 0
  PrintsFiles all before now (Ok done) = (text : List ℕ) × PrintsAll all text × Appends before now text
  PrintsFiles all before now (Err fault) = (text : List ℕ) × PrintsSome all fault text × Appends before now text
