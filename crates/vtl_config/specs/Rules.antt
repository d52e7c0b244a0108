-- The rules of a configuration's entries: when each refusal comes.
use Rattle.std.specs.Prelude.{◌≡◌, ℕ, false, Some, None, List, ◌++◌}
use Rattle.std.specs.List.{Contains}
use Rattle.toml.specs.Data.{Data, string, table, Members, as_table}
use Rattle.vtl_config.specs.Entries.{numbers_of, drive_files, barcodes_of, both_files, homes_of}
use Rattle.vtl_config.specs.FileNames.{both_names, Meets}
use Rattle.vtl_config.specs.Keys.{drive_keys, cartridge_keys, has_only}
use Rattle.vtl_config.specs.Values.{value_at, whole, IsDriveNumber, Misfits}
use Rattle.vtl_config.specs.declared.entries.DriveEntry.{DriveEntry}
use Rattle.vtl_config.specs.declared.entries.CartridgeEntry.{CartridgeEntry}
use Rattle.vtl_config.specs.declared.keys.Key.{Key}
use Rattle.vtl_config.specs.declared.keys.Key.TheVariants.{Barcode, File, Home, Number, Reservations}
use Rattle.vtl_config.specs.declared.rules.Rule.{Rule}
use Rattle.vtl_config.specs.declared.rules.Rule.TheVariants.{NotATable, OtherKey, Double, NoSuchDrive}

-- The rule that a table of these keys breaks: it has another key, or the value of one of them misfits (own).
pub data TableBreaks (keys : List Key) (entry : Members) (rule : Rule) : Type 0 where
  other_key : rule ≡ OtherKey → has_only keys entry ≡ false → TableBreaks keys entry rule
  misfits : (key : Key) → Contains keys key → Misfits key (value_at key entry) rule → TableBreaks keys entry rule

-- The rule that a drive's table breaks after these drives (own).
pub data DriveTableBreaks (before : List DriveEntry) (entry : Members) (rule : Rule) : Type 0 where
  drive_alone : TableBreaks drive_keys entry rule → DriveTableBreaks before entry rule
  double_number :
      (number : ℕ) → rule ≡ Double Number → value_at Number entry ≡ Some (whole number)
      → Contains (numbers_of before) number → DriveTableBreaks before entry rule
  double_reservations :
      (file : List ℕ) → rule ≡ Double Reservations → value_at Reservations entry ≡ Some (string file)
      → Contains (drive_files before) file → DriveTableBreaks before entry rule

-- The rule that a cartridge's table breaks in a library of these drives, after these cartridges. A file occurs twice
-- where one of the cartridge's two names is that of a drive's file, or of one of the two files of an earlier cartridge
-- (own).
pub data CartridgeTableBreaks (drives : List DriveEntry) (before : List CartridgeEntry) (entry : Members)
    (rule : Rule) : Type 0 where
  cartridge_alone : TableBreaks cartridge_keys entry rule → CartridgeTableBreaks drives before entry rule
  double_barcode :
      (barcode : List ℕ) → rule ≡ Double Barcode → value_at Barcode entry ≡ Some (string barcode)
      → Contains (barcodes_of before) barcode → CartridgeTableBreaks drives before entry rule
  double_file :
      (file : List ℕ) → rule ≡ Double File → value_at File entry ≡ Some (string file)
      → Meets (both_names file) (drive_files drives ++ both_files before) → CartridgeTableBreaks drives before entry
      rule
  double_home :
      (home : ℕ) → rule ≡ Double Home → value_at Home entry ≡ Some (whole home)
      → Contains (homes_of before) home → CartridgeTableBreaks drives before entry rule
  no_such_drive :
      (home : ℕ) → rule ≡ NoSuchDrive → value_at Home entry ≡ Some (whole home) → IsDriveNumber home
      → ¬ Contains (numbers_of drives) home → CartridgeTableBreaks drives before entry rule

-- The rule that an entry breaks: it is no table, or a table that breaks it (own).
pub data EntryBreaks (breaks : Members → Rule → Type 0) (value : Data) (rule : Rule) : Type 0 where
  no_table : rule ≡ NotATable → as_table value ≡ None → EntryBreaks breaks value rule
  its_table : (entry : Members) → value ≡ table entry → breaks entry rule → EntryBreaks breaks value rule
