-- A table says one configuration: what its entries are is determined.
use Rattle.std.proofs.Common.{◌≡◌, ℕ, zero, suc, ◌<◌, Option, Some, None, List, [], ◌∷◌, ◌++◌, length, get_or, map, MatchOption, arith, refl, sym, ap, ap₂, subst, ◌∙◌}
use Rattle.std.proofs.lemmas.Option.{same_Some}
use Rattle.std.proofs.lemmas.List.Elements.{Contains-append_right}
use Rattle.std.specs.List.{Contains}
use Rattle.toml.specs.Data.{Data, string, integer, float, boolean, datetime, array, table, Members}
use Rattle.toml.specs.View.{items_of}
use Rattle.vtl_config.specs.Configs.{EntriesAt}
use Rattle.vtl_config.specs.Entries.{address_of, numbers_of, drive_files, barcodes_of, both_files, homes_of, IsDrive, IsDriveTable, IsCartridge, IsCartridgeTable, Paired, AreDistinct}
use Rattle.vtl_config.specs.FileNames.{second_name}
use Rattle.vtl_config.specs.Values.{value_at, whole}
use Rattle.vtl_config.specs.declared.entries.CartridgeEntry.{CartridgeEntry}
use Rattle.vtl_config.specs.declared.entries.DriveEntry.{DriveEntry}
use Rattle.vtl_config.specs.declared.keys.Key.{Key}

items_same : (xs ys : List Data) → items_of xs ≡ items_of ys → xs ≡ ys
items_same [] [] e = refl
items_same [] (y ∷ ys) e = cc
items_same (x ∷ xs) [] e = cc
items_same (x ∷ xs) (y ∷ ys) e =
    let heads : x ≡ y = cc in
    let tails : items_of xs ≡ items_of ys = cc in
    rw (heads, items_same xs ys tails) refl

entries_go :
    (found : Option Data) (xs ys : List Data)
    → MatchOption found (xs ≡ []) (λ value. value ≡ array (items_of xs))
    → MatchOption found (ys ≡ []) (λ value. value ≡ array (items_of ys)) → xs ≡ ys
entries_go None xs ys left right = left ∙ sym right
entries_go (Some value) xs ys left right =
    let lists : array (items_of xs) ≡ array (items_of ys) = sym left ∙ right in
    let items : items_of xs ≡ items_of ys = cc in
    items_same xs ys items

-- a list has the same entries, however they are read
pub entries_same :
    (list : Key) (root : Members) (xs ys : List Data) → EntriesAt list root xs → EntriesAt list root ys → xs ≡ ys
entries_same list root xs ys left right = entries_go (value_at list root) xs ys left right

-- the entry that stands behind some
pub record Split {A B : Type 0} (R : A → B → Type 0) (heads : List A) (value : A) (entries : List B) : Type 0 where
  pub before : List B
  pub entry : B
  pub behind : List B
  pub all : entries ≡ before ++ entry ∷ behind
  pub first : Paired R heads before
  pub here : R value entry

pub paired_split :
    {A B : Type 0} (R : A → B → Type 0) (heads : List A) (value : A) (rest : List A) (entries : List B)
    → Paired R (heads ++ value ∷ rest) entries → Split R heads value entries
paired_split R [] value rest [] paired = absurd paired
paired_split R [] value rest (e ∷ es) paired = record {
  before = [];
  entry = e;
  behind = es;
  all = refl;
  first = tt;
  here = paired.0;
}
paired_split R (h ∷ hs) value rest [] paired = absurd paired
paired_split {A} {B} R (h ∷ hs) value rest (e ∷ es) paired =
    let more = paired_split R hs value rest es paired.1 in record {
      before = e ∷ more.before;
      entry = more.entry;
      behind = more.behind;
      all = ap (λ (t : List B). e ∷ t) more.all;
      first = (paired.0, more.first);
      here = more.here;
    }

-- what stands behind others is none of them
distinct_go :
    {A : Type 0} (xs : List A) (x : A) (ys : List A) → AreDistinct (xs ++ x ∷ ys)
    → (k : ℕ) → k < length xs → get_or xs k x ≡ x → ⊥
distinct_go [] x ys distinct k below here = absurd (omega arith)
distinct_go (a ∷ xs) x ys distinct zero below here =
    distinct.0 (Contains-append_right xs (x ∷ ys) a (0, omega arith, sym here))
distinct_go (a ∷ xs) x ys distinct (suc k) below here = distinct_go xs x ys distinct.1 k (omega arith) here

pub distinct_split :
    {A : Type 0} (xs : List A) (x : A) (ys : List A) → AreDistinct (xs ++ x ∷ ys) → ¬ Contains xs x
distinct_split xs x ys distinct = λ has. distinct_go xs x ys distinct has.0 has.1 has.2

pub is_drive_table :
    (value : Data) (drive : DriveEntry) → IsDrive value drive
    → (entry : Members) × (value ≡ table entry) × IsDriveTable entry drive.number drive.reservations
is_drive_table (string x) drive is = absurd is
is_drive_table (integer x) drive is = absurd is
is_drive_table (float x) drive is = absurd is
is_drive_table (boolean x) drive is = absurd is
is_drive_table (datetime x) drive is = absurd is
is_drive_table (array x) drive is = absurd is
is_drive_table (table x) drive is = (x, refl, is)

pub is_cartridge_table :
    (value : Data) (cartridge : CartridgeEntry) → IsCartridge value cartridge
    → (entry : Members) × (value ≡ table entry)
    × IsCartridgeTable entry cartridge.barcode cartridge.file cartridge.capacities (address_of cartridge.home)
    × (cartridge.second_file ≡ second_name cartridge.file)
is_cartridge_table (string x) cartridge is = absurd is
is_cartridge_table (integer x) cartridge is = absurd is
is_cartridge_table (float x) cartridge is = absurd is
is_cartridge_table (boolean x) cartridge is = absurd is
is_cartridge_table (datetime x) cartridge is = absurd is
is_cartridge_table (array x) cartridge is = absurd is
is_cartridge_table (table x) cartridge is = (x, refl, is.0, is.1)

-- one value is one text, and one whole number
pub same_text : (found : Option Data) (s t : List ℕ) → found ≡ Some (string s) → found ≡ Some (string t) → s ≡ t
same_text found s t left right =
    let values : string s ≡ string t = same_Some _ _ (sym left ∙ right) in cc

pub same_whole : (found : Option Data) (m n : ℕ) → found ≡ Some (whole m) → found ≡ Some (whole n) → m ≡ n
same_whole found m n left right =
    let values : whole m ≡ whole n = same_Some _ _ (sym left ∙ right) in cc

same_table : (value : Data) (x y : Members) → value ≡ table x → value ≡ table y → x ≡ y
same_table value x y left right = let values : table x ≡ table y = sym left ∙ right in cc

-- entries are of the same drives
pub record SameDrives (xs ys : List DriveEntry) : Type 0 where
  pub numbers : numbers_of xs ≡ numbers_of ys
  pub files : drive_files xs ≡ drive_files ys

drive_same :
    (value : Data) (x y : DriveEntry) → IsDrive value x → IsDrive value y
    → (x.number ≡ y.number) × (x.reservations ≡ y.reservations)
drive_same value x y left right =
    let l = is_drive_table value x left in
    let r = is_drive_table value y right in
    let one : l.0 ≡ r.0 = same_table value l.0 r.0 l.1 r.1 in
    let moved : IsDriveTable r.0 x.number x.reservations =
    subst (λ (m : Members). IsDriveTable m x.number x.reservations) one l.2 in (
      same_whole _ _ _ moved.number_value r.2.number_value,
      same_text _ _ _ moved.file_value r.2.file_value,
    )

pub drives_same :
    (values : List Data) (xs ys : List DriveEntry) → Paired IsDrive values xs → Paired IsDrive values ys
    → SameDrives xs ys
drives_same [] [] [] left right = record { numbers = refl; files = refl }
drives_same [] (x ∷ xs) ys left right = absurd left
drives_same [] [] (y ∷ ys) left right = absurd right
drives_same (v ∷ vs) [] ys left right = absurd left
drives_same (v ∷ vs) (x ∷ xs) [] left right = absurd right
drives_same (v ∷ vs) (x ∷ xs) (y ∷ ys) left right =
    let here = drive_same v x y left.0 right.0 in
    let more = drives_same vs xs ys left.1 right.1 in record {
      numbers = rw (here.0, more.numbers) refl;
      files = rw (here.1, more.files) refl;
    }

-- entries are of the same cartridges
pub record SameCartridges (xs ys : List CartridgeEntry) : Type 0 where
  pub barcodes : barcodes_of xs ≡ barcodes_of ys
  pub files : both_files xs ≡ both_files ys
  pub homes : homes_of xs ≡ homes_of ys

cartridge_same :
    (value : Data) (x y : CartridgeEntry) → IsCartridge value x → IsCartridge value y
    → (x.barcode ≡ y.barcode) × (x.file ≡ y.file) × (x.second_file ≡ y.second_file)
    × (address_of x.home ≡ address_of y.home)
cartridge_same value x y left right =
    let l = is_cartridge_table value x left in
    let r = is_cartridge_table value y right in
    let one : l.0 ≡ r.0 = same_table value l.0 r.0 l.1 r.1 in
    let moved : IsCartridgeTable r.0 x.barcode x.file x.capacities (address_of x.home) =
    subst
    (λ (m : Members). IsCartridgeTable m x.barcode x.file x.capacities (address_of x.home))
    one l.2 in
    let file = same_text _ _ _ moved.file_value r.2.file_value in (
      same_text _ _ _ moved.barcode_value r.2.barcode_value,
      file,
      l.3 ∙ (ap second_name file ∙ sym r.3),
      same_whole _ _ _ moved.home_value r.2.home_value,
    )

pub cartridges_same :
    (values : List Data) (xs ys : List CartridgeEntry) → Paired IsCartridge values xs → Paired IsCartridge values ys
    → SameCartridges xs ys
cartridges_same [] [] [] left right = record { barcodes = refl; files = refl; homes = refl }
cartridges_same [] (x ∷ xs) ys left right = absurd left
cartridges_same [] [] (y ∷ ys) left right = absurd right
cartridges_same (v ∷ vs) [] ys left right = absurd left
cartridges_same (v ∷ vs) (x ∷ xs) [] left right = absurd right
cartridges_same (v ∷ vs) (x ∷ xs) (y ∷ ys) left right =
    let here = cartridge_same v x y left.0 right.0 in
    let more = cartridges_same vs xs ys left.1 right.1 in record {
      barcodes = rw (here.0, more.barcodes) refl;
      files = rw (here.1, here.2, more.files) refl;
      homes = rw (here.3, more.homes) refl;
    }
