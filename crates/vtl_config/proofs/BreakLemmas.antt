-- What is taken breaks no rule.
use Rattle.std.proofs.Common.{◌≡◌, ◌⊎◌, ◌+◌, ◌<◌, ℕ, zero, suc, true, false, Option, Some, None, List, [], ◌∷◌, ◌++◌, length, get_or, map, MatchOption, inl, inr, arith, refl, sym, ap, subst, ◌∙◌, append_assoc}
use Rattle.std.proofs.lemmas.Grind.{flat_map-append}
use Rattle.std.proofs.lemmas.List.{map-append}
use Rattle.std.proofs.lemmas.List.Elements.{All-contains, Contains-append_left, Contains-append_right}
use Rattle.std.specs.List.{Contains}
use Rattle.toml.specs.Data.{Data, array, table, Members, as_table}
use Rattle.toml.specs.View.{items_of}
use Rattle.vtl_config.specs.Configs.{EntriesAt, AreDrives, AreCartridges, IsAtHome, BrokenAt, IsConfig, ConfigBreaks, other_key, no_list, at_drive, at_cartridge}
use Rattle.vtl_config.specs.Entries.{address_of, numbers_of, drive_files, barcodes_of, both_files, homes_of, IsDrive, IsDriveTable, IsCartridge, IsCartridgeTable, Paired, AreDistinct}
use Rattle.vtl_config.specs.FileNames.{second_name, both_names, Meets}
use Rattle.vtl_config.specs.Inner.Found.{FitsCartridgeTable}
use Rattle.vtl_config.specs.Keys.{top_keys}
use Rattle.vtl_config.specs.Laws.{NothingIsBroken}
use Rattle.vtl_config.specs.Rules.{TableBreaks, misfits, DriveTableBreaks, drive_alone, double_number, double_reservations, CartridgeTableBreaks, cartridge_alone, double_barcode, double_file, double_home, no_such_drive, EntryBreaks, no_table, its_table}
use Rattle.vtl_config.specs.Rules as rules_of
use Rattle.vtl_config.specs.Values.{value_at, kind_of_key, is_of_kind}
use Rattle.vtl_config.specs.declared.entries.CartridgeEntry.{CartridgeEntry}
use Rattle.vtl_config.specs.declared.entries.DriveEntry.{DriveEntry}
use Rattle.vtl_config.specs.declared.keys.Key.{Key}
use Rattle.vtl_config.specs.declared.keys.Key.TheVariants as key
use Rattle.vtl_config.specs.declared.rules.Place.{Place}
use Rattle.vtl_config.specs.declared.rules.Place.TheVariants.{Drive, Cartridge}
use Rattle.vtl_config.specs.declared.rules.Rule.{Rule}
use Rattle.vtl_config.proofs.FitLemmas.{drive_fits, cartridge_fits}
use Rattle.vtl_config.proofs.SameLemmas.{entries_same, Split, paired_split, distinct_split, is_drive_table, is_cartridge_table, same_text, same_whole, SameDrives, drives_same, SameCartridges, cartridges_same}

-- a drive's table behind others whose values are other ones
drive_right :
    (before : List DriveEntry) (entry : Members) (number : ℕ) (file : List ℕ) → IsDriveTable entry number file
    → ¬ Contains (numbers_of before) number → ¬ Contains (drive_files before) file
    → (rule : Rule) → DriveTableBreaks before entry rule → ⊥
drive_right before entry number file is new_number new_file rule (drive_alone (rules_of.other_key told others)) =
    let both : true ≡ false = sym is.keys ∙ others in cc
drive_right before entry number file is new_number new_file rule (drive_alone (misfits wrong has misfit)) =
    drive_fits entry number file is wrong has rule misfit
drive_right before entry number file is new_number new_file rule (double_number other told there has) =
    new_number (rw (same_whole _ _ _ is.number_value there) has)
drive_right before entry number file is new_number new_file rule (double_reservations other told there has) =
    new_file (rw (same_text _ _ _ is.file_value there) has)

-- a cartridge's table behind others whose values are other ones, at a home that is there
cartridge_right :
    (drives : List DriveEntry) (before : List CartridgeEntry) (entry : Members) (b f c : List ℕ) (h : ℕ)
    → FitsCartridgeTable drives before entry b f c h → (rule : Rule)
    → CartridgeTableBreaks drives before entry rule → ⊥
cartridge_right drives before entry b f c h fits rule (cartridge_alone (rules_of.other_key told others)) =
    let both : true ≡ false = sym fits.is_table.keys ∙ others in cc
cartridge_right drives before entry b f c h fits rule (cartridge_alone (misfits wrong has misfit)) =
    cartridge_fits entry b f c h fits.is_table wrong has rule misfit
cartridge_right drives before entry b f c h fits rule (double_barcode other told there has) =
    fits.new_barcode (rw (same_text _ _ _ fits.is_table.barcode_value there) has)
cartridge_right drives before entry b f c h fits rule (double_file other told there has) =
    fits.new_files
    (subst (λ (file : List ℕ). Meets (both_names file) (drive_files drives ++ both_files before))
    (same_text _ _ _ there fits.is_table.file_value) has)
cartridge_right drives before entry b f c h fits rule (double_home other told there has) =
    fits.new_home (rw (same_whole _ _ _ fits.is_table.home_value there) has)
cartridge_right drives before entry b f c h fits rule (no_such_drive other told there range none) =
    let one = same_whole _ _ _ fits.is_table.home_value there in
    none (rw (← one) (fits.is_listed (rw one range)))

entry_right :
    (breaks : Members → Rule → Type 0) (value : Data) (entry : Members) → value ≡ table entry
    → ((rule : Rule) → breaks entry rule → ⊥) → (rule : Rule) → EntryBreaks breaks value rule → ⊥
entry_right breaks value entry is right rule (no_table told none) =
    let both : Some entry ≡ None = ap as_table (sym is) ∙ none in cc
entry_right breaks value entry is right rule (its_table other here broken) =
    let tables : table other ≡ table entry = sym here ∙ is in
    let one : other ≡ entry = cc in
    right rule (subst (λ (e : Members). breaks e rule) one broken)

no_drive_broken :
    (entries : List Data) (drives : List DriveEntry) (place : Place) (rule : Rule) → AreDrives entries drives
    → BrokenAt AreDrives DriveTableBreaks Drive entries place rule → ⊥
no_drive_broken entries drives place rule are broken =
    let each : Paired IsDrive (broken.heads ++ broken.value ∷ broken.rest) drives =
    subst (λ (vs : List Data). Paired IsDrive vs drives) broken.all are.each in
    let split = paired_split IsDrive broken.heads broken.value broken.rest drives each in
    let same = drives_same broken.heads broken.before split.before broken.right.each split.first in
    let here = is_drive_table broken.value split.entry split.here in
    let numbers : AreDistinct (numbers_of split.before ++ split.entry.number ∷ numbers_of split.behind) =
    subst (λ (ns : List ℕ). AreDistinct ns)
    (ap numbers_of split.all
    ∙ map-append (λ (d : DriveEntry). d.number) split.before (split.entry ∷ split.behind)) are.numbers in
    let files : AreDistinct
    (drive_files split.before ++ split.entry.reservations ∷ drive_files split.behind) =
    subst (λ (fs : List (List ℕ)). AreDistinct fs)
    (ap drive_files split.all
    ∙ map-append (λ (d : DriveEntry). d.reservations) split.before (split.entry ∷ split.behind))
    are.files in
    entry_right (DriveTableBreaks broken.before) broken.value here.0 here.1
    (drive_right broken.before here.0 split.entry.number split.entry.reservations here.2
    (rw same.numbers (distinct_split (numbers_of split.before) split.entry.number (numbers_of split.behind) numbers))
    (rw same.files
    (distinct_split (drive_files split.before) split.entry.reservations (drive_files split.behind)
    files)))
    rule broken.broken

-- both names behind others are none of them
names_go :
    (xs : List (List ℕ)) (file second : List ℕ) → second ≡ second_name file → ¬ Contains xs file
    → ¬ Contains xs second → (x : List ℕ) (k : ℕ) → k < 2 → get_or (both_names file) k x ≡ x → Contains xs x → ⊥
names_go xs file second named first other x zero below here has =
    first (subst (λ (t : List ℕ). Contains xs t) (sym here) has)
names_go xs file second named first other x (suc zero) below here has =
    other (subst (λ (t : List ℕ). Contains xs t) (sym here ∙ sym named) has)
names_go xs file second named first other x (suc (suc k)) below here has = absurd (omega arith)

distinct_names :
    (xs : List (List ℕ)) (file second : List ℕ) (ys : List (List ℕ)) → second ≡ second_name file
    → AreDistinct (xs ++ file ∷ second ∷ ys) → ¬ Meets (both_names file) xs
distinct_names xs file second ys named distinct =
    let moved : AreDistinct ((xs ++ file ∷ []) ++ second ∷ ys) =
    subst (λ (zs : List (List ℕ)). AreDistinct zs) (sym (append_assoc xs (file ∷ []) (second ∷ ys))) distinct in
    let first = distinct_split xs file (second ∷ ys) distinct in
    let other : ¬ Contains xs second =
    (λ has. distinct_split (xs ++ file ∷ []) second ys moved (Contains-append_left xs (file ∷ []) second has)) in
    (λ meets. names_go xs file second named first other meets.0 meets.1.0 meets.1.1 meets.1.2 meets.2)

no_cartridge_broken :
    (drives others : List DriveEntry) (entries : List Data) (cartridges : List CartridgeEntry) (place : Place)
    (rule : Rule) → SameDrives others drives → AreCartridges drives entries cartridges
    → BrokenAt (AreCartridges others) (CartridgeTableBreaks others) Cartridge entries place rule → ⊥
no_cartridge_broken drives others entries cartridges place rule one are broken =
    let each : Paired IsCartridge (broken.heads ++ broken.value ∷ broken.rest) cartridges =
    subst (λ (vs : List Data). Paired IsCartridge vs cartridges) broken.all are.each in
    let split = paired_split IsCartridge broken.heads broken.value broken.rest cartridges each in
    let same = cartridges_same broken.heads broken.before split.before broken.right.each split.first in
    let here = is_cartridge_table broken.value split.entry split.here in
    let barcodes : AreDistinct (barcodes_of split.before ++ split.entry.barcode ∷ barcodes_of split.behind) =
    subst (λ (bs : List (List ℕ)). AreDistinct bs)
    (ap barcodes_of split.all
    ∙ map-append (λ (c : CartridgeEntry). c.barcode) split.before (split.entry ∷ split.behind)) are.barcodes in
    let files : AreDistinct
    ((drive_files drives ++ both_files split.before)
    ++ split.entry.file ∷ split.entry.second_file ∷ both_files split.behind) =
    subst (λ (fs : List (List ℕ)). AreDistinct fs)
    (ap (λ (fs : List (List ℕ)). drive_files drives ++ fs)
    (ap both_files split.all
    ∙ flat_map-append (λ (c : CartridgeEntry). c.file ∷ c.second_file ∷ []) split.before
    (split.entry ∷ split.behind))
    ∙ sym (append_assoc (drive_files drives) (both_files split.before)
    (split.entry.file ∷ split.entry.second_file ∷ both_files split.behind)))
    are.files in
    let homes_are : homes_of cartridges ≡ homes_of split.before ++ address_of split.entry.home ∷ homes_of split.behind =
    ap homes_of split.all
    ∙ map-append (λ (c : CartridgeEntry). address_of c.home) split.before (split.entry ∷ split.behind) in
    let homes : AreDistinct (homes_of split.before ++ address_of split.entry.home ∷ homes_of split.behind) =
    subst (λ (hs : List ℕ). AreDistinct hs) homes_are are.homes in
    let has_home : Contains (homes_of cartridges) (address_of split.entry.home) =
    subst (λ (hs : List ℕ). Contains hs (address_of split.entry.home)) (sym homes_are)
    (Contains-append_right (homes_of split.before) (address_of split.entry.home ∷ homes_of split.behind)
    (address_of split.entry.home) (0, omega arith, refl)) in
    let listed : IsAtHome (numbers_of drives) (address_of split.entry.home) =
    All-contains (IsAtHome (numbers_of drives)) (homes_of cartridges) (address_of split.entry.home) are.listed
    has_home in
    entry_right (CartridgeTableBreaks others broken.before) broken.value here.0 here.1
    (cartridge_right others broken.before here.0 split.entry.barcode split.entry.file
    split.entry.capacities (address_of split.entry.home)
    (record {
      is_table = here.2;
      new_barcode =
          rw same.barcodes
          (distinct_split (barcodes_of split.before) split.entry.barcode (barcodes_of split.behind) barcodes);
      new_files =
          rw (one.files, same.files)
          (distinct_names (drive_files drives ++ both_files split.before) split.entry.file split.entry.second_file
          (both_files split.behind) here.3 files);
      new_home =
          rw same.homes
          (distinct_split (homes_of split.before) (address_of split.entry.home) (homes_of split.behind) homes);
      is_listed = rw one.numbers listed;
    })) rule broken.broken

top_key_go : (list : Key) (k : ℕ) → k < 2 → get_or top_keys k list ≡ list → (key.Cartridge ≡ list) ⊎ (key.Drive ≡ list)
top_key_go list zero below here = inl here
top_key_go list (suc zero) below here = inr here
top_key_go list (suc (suc k)) below here = absurd (omega arith)

-- a list that has entries is one
list_right :
    (found : Option Data) (entries : List Data) (value : Data)
    → MatchOption found (entries ≡ []) (λ v. v ≡ array (items_of entries)) → found ≡ Some value
    → (list : Key) → is_of_kind (kind_of_key list) (array (items_of entries)) ≡ true
    → is_of_kind (kind_of_key list) value ≡ false → ⊥
list_right None entries value there here list kind wrong = cc
list_right (Some v) entries value there here list kind wrong =
    let one : v ≡ value = cc in
    let lists : is_of_kind (kind_of_key list) value ≡ true = rw (← one, there) kind in
    let both : true ≡ false = sym lists ∙ wrong in cc

pub nothing_is_broken : NothingIsBroken
nothing_is_broken root config is place rule (other_key at_top told others) =
    let both : true ≡ false = sym is.keys ∙ others in cc
nothing_is_broken root config is place rule (no_list list value has at_top told there wrong) =
    elim (top_key_go list has.0 has.1 has.2) [
      | inl same ↦
          list_right (value_at key.Cartridge root) is.cartridges.0 value is.cartridges.1
          (subst (λ (k : Key). value_at k root ≡ Some value) (sym same) there) key.Cartridge refl
          (subst (λ (k : Key). is_of_kind (kind_of_key k) value ≡ false) (sym same) wrong)
      | inr same ↦
          list_right (value_at key.Drive root) is.drives.0 value is.drives.1
          (subst (λ (k : Key). value_at k root ≡ Some value) (sym same) there) key.Drive refl
          (subst (λ (k : Key). is_of_kind (kind_of_key k) value ≡ false) (sym same) wrong)
    ]
nothing_is_broken root config is place rule (at_drive entries there broken) =
    no_drive_broken is.drives.0 config.drives.items place rule is.drives.2
    (subst (λ (vs : List Data). BrokenAt AreDrives DriveTableBreaks Drive vs place rule)
    (entries_same key.Drive root entries is.drives.0 there is.drives.1) broken)
nothing_is_broken root config is place rule (at_cartridge entries more drives there are here broken) =
    let same_entries = entries_same key.Drive root entries is.drives.0 there is.drives.1 in
    let moved : AreDrives is.drives.0 drives =
    subst (λ (vs : List Data). AreDrives vs drives) same_entries are in
    no_cartridge_broken config.drives.items drives is.cartridges.0 config.cartridges.items place rule
    (drives_same is.drives.0 drives config.drives.items moved.each is.drives.2.each) is.cartridges.2
    (subst (λ (vs : List Data). BrokenAt (AreCartridges drives) (CartridgeTableBreaks drives) Cartridge vs place rule)
    (entries_same key.Cartridge root more is.cartridges.0 here is.cartridges.1) broken)
