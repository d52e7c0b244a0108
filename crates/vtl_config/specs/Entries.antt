-- What a configuration has, and what its text says of it.
use Rattle.std.specs.Prelude.{◌≡◌, ℕ, true, Some, List, [], ◌∷◌, map, ⊤}
use Rattle.std.specs.List.{Contains, flat_map}
use Rattle.toml.specs.Data.{Data, string, array, table, Members}
use Rattle.toml.specs.View.{items_of}
use Rattle.vtl_base.specs.Barcode.{IsBarcode}
use Rattle.vtl_config.specs.Capacities.{AreCapacities}
use Rattle.vtl_config.specs.FileNames.{second_name}
use Rattle.vtl_config.specs.Keys.{drive_keys, cartridge_keys, has_only}
use Rattle.vtl_config.specs.Values.{value_at, whole, IsAddress, IsDriveNumber}
use Rattle.vtl_config.specs.declared.entries.Address.{Address}
use Rattle.vtl_config.specs.declared.entries.Address.TheVariants as address
use Rattle.vtl_config.specs.declared.entries.DriveEntry.{DriveEntry}
use Rattle.vtl_config.specs.declared.entries.CartridgeEntry.{CartridgeEntry}
use Rattle.vtl_config.specs.declared.keys.Key.TheVariants.{Barcode, File, Capacities, Home, Number, Reservations}

-- an element address in numbers (own)
abbrev pub address_of : Address → ℕ
address_of (address.Slot slot) = slot
address_of (address.Drive drive) = drive

-- the numbers of drives, in order (own)
abbrev pub numbers_of : List DriveEntry → List ℕ
numbers_of drives = map (λ drive. drive.number) drives

-- the files of drives (own)
abbrev pub drive_files : List DriveEntry → List (List ℕ)
drive_files drives = map (λ drive. drive.reservations) drives

-- the barcodes of cartridges (own)
abbrev pub barcodes_of : List CartridgeEntry → List (List ℕ)
barcodes_of cartridges = map (λ cartridge. cartridge.barcode) cartridges

-- the first files of cartridges (own)
abbrev pub cartridge_files : List CartridgeEntry → List (List ℕ)
cartridge_files cartridges = map (λ cartridge. cartridge.file) cartridges

-- the second files of cartridges (own)
abbrev pub second_files : List CartridgeEntry → List (List ℕ)
second_files cartridges = map (λ cartridge. cartridge.second_file) cartridges

-- both files of each cartridge, in order (own)
abbrev pub both_files : List CartridgeEntry → List (List ℕ)
both_files cartridges = flat_map (λ cartridge. cartridge.file ∷ cartridge.second_file ∷ []) cartridges

-- the homes of cartridges (own)
abbrev pub homes_of : List CartridgeEntry → List ℕ
homes_of cartridges = map (λ cartridge. address_of cartridge.home) cartridges

-- a drive's table: these keys and no other, its number, and the name of the file of its reservations (own)
pub record IsDriveTable (entry : Members) (number : ℕ) (file : List ℕ) : Type 0 where
  pub keys : has_only drive_keys entry ≡ true
  pub number_value : value_at Number entry ≡ Some (whole number)
  pub is_number : IsDriveNumber number
  pub file_value : value_at Reservations entry ≡ Some (string file)

-- a cartridge's table: these keys and no other, its barcode, the name of its file, its capacities and its home (own)
pub record IsCartridgeTable (entry : Members) (barcode file capacities : List ℕ) (home : ℕ) : Type 0 where
  pub keys : has_only cartridge_keys entry ≡ true
  pub barcode_value : value_at Barcode entry ≡ Some (string barcode)
  pub is_barcode : IsBarcode barcode
  pub file_value : value_at File entry ≡ Some (string file)
  pub capacities_value : value_at Capacities entry ≡ Some (array (items_of (map whole capacities)))
  pub hold_capacities : AreCapacities capacities
  pub home_value : value_at Home entry ≡ Some (whole home)
  pub is_home : IsAddress home

-- the value is a drive's table (own)
abbrev pub IsDrive : Data → DriveEntry → Type 0
IsDrive (table entry) drive = IsDriveTable entry drive.number drive.reservations
IsDrive _ drive = ⊥

-- the value is a cartridge's table; its second file is named after the first (own)
abbrev pub IsCartridge : Data → CartridgeEntry → Type 0
IsCartridge (table entry) cartridge =
    IsCartridgeTable entry cartridge.barcode cartridge.file cartridge.capacities (address_of cartridge.home)
    × (cartridge.second_file ≡ second_name cartridge.file)
IsCartridge _ cartridge = ⊥

-- R holds of each of the values and its entry, in order, and there are as many (own)
abbrev pub Paired : {A B : Type 0} → (A → B → Type 0) → List A → List B → Type 0
Paired R [] [] = ⊤
Paired R [] (b ∷ bs) = ⊥
Paired R (a ∷ as') [] = ⊥
Paired R (a ∷ as') (b ∷ bs) = R a b × Paired R as' bs

-- no two of them are equal (own)
abbrev pub AreDistinct : {A : Type 0} → List A → Type 0
AreDistinct [] = ⊤
AreDistinct (x ∷ xs) = ¬ Contains xs x × AreDistinct xs
