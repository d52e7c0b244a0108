-- Both files of a cartridge are opened (own).
use Rattle.std.specs.Prelude.{◌≡◌, ◌⊎◌, ℕ, Bool, List, Result, Ok, Err}
use Rattle.file_disk.specs.declared.error.FileError.{FileError}
use Rattle.vtl_faults.specs.declared.faults.VtlFault.{VtlFault}
use Rattle.vtl_faults.specs.declared.faults.VtlFault.TheVariants.{Device}

module _ {D : Type 0} (opens : List ℕ → Result D FileError → Type 0) (pairs : List ℕ → Result Bool FileError → Type 0)
    (opens_second : Bool → List ℕ → Result D FileError → Type 0) where
  -- The disks that the openings of both files gave, under the names of the files. The second one was opened as the
  -- first one's pair gate says (own).
  abbrev pub AreOpened : (file second_file : List ℕ) → (List ℕ × D) × (List ℕ × D) → Type 0
  AreOpened file second_file disks =
      (disks.0.0 ≡ file) × opens file (Ok disks.0.1)
      × ((disks.1.0 ≡ second_file)
      × ((paired : Bool) × pairs file (Ok paired) × opens_second paired second_file (Ok disks.1.1)))

  -- The first file was not opened. Or it was, and its disk was returned as it was opened, since its pair gate could not
  -- be looked at, or the second file was not opened (own).
  abbrev pub AreNotOpened : (List ℕ → D → Type 0) → (file second_file : List ℕ) → VtlFault → Type 0
  AreNotOpened returns_disk file second_file fault =
      (fault ≡ Device)
      × (((error : FileError) × opens file (Err error))
      ⊎ ((first : D) × opens file (Ok first)
      × ((((error : FileError) × pairs file (Err error))
      ⊎ ((paired : Bool) × pairs file (Ok paired) × ((error : FileError) × opens_second paired second_file (Err
      error))))
      × returns_disk file first)))
