-- The words of a reason.
use Rattle.std.specs.Prelude.{◌+◌, ◌-◌, ℕ, List, [], ◌++◌, Option, Some, None, String, string_bytes, codes, decimal}
use Rattle.std.specs.declared.alloc.Global.{Global}
use Rattle.vtl_base.specs.declared.limits.TheConstants.{DRIVES, FIRST_SLOT, MAX_BARCODE, MAX_CAPACITY, MAX_PARTITIONS, MIN_CAPACITY, SLOTS}
use Rattle.vtl_config.specs.Keys.{name_of}
use Rattle.vtl_config.specs.declared.keys.Key.{Key}
use Rattle.vtl_config.specs.declared.keys.Key.TheVariants as key
use Rattle.vtl_config.specs.declared.rules.Place.{Place}
use Rattle.vtl_config.specs.declared.rules.Place.TheVariants as places
use Rattle.vtl_config.specs.declared.rules.Rule.{Rule}
use Rattle.vtl_config.specs.declared.rules.Rule.TheVariants as rules
use Rattle.explanations.specs.Lines.{line_of}
use Rattle.config_reasons.specs.Seen.{among_text, seen_text}
use Rattle.config_reasons.specs.declared.reasons.ConfigReason.{ConfigReason}
use Rattle.config_reasons.specs.declared.reasons.Entry.{Entry}
use Rattle.config_reasons.specs.declared.reasons.Found.{Found}
use Rattle.config_reasons.specs.declared.reasons.Found.TheVariants as found
use Rattle.config_reasons.specs.declared.seen.Outside.{Outside}
use Rattle.config_reasons.specs.declared.seen.Seen.{Seen}
use Rattle.config_reasons.specs.declared.seen.Seen.TheVariants as seen
use Rattle.config_reasons.specs.declared.spots.Spot.{Spot}

-- the barcode of an entry, where it has one (own)
abbrev pub barcode_text : Option (String Global) → List ℕ
barcode_text None = []
barcode_text (Some barcode) = codes ", " ++ string_bytes barcode

-- a place, and the barcode of a cartridge's entry (own)
abbrev pub place_text : Place → Option (String Global) → List ℕ
place_text places.Top barcode = codes "outside all entries"
place_text (places.Drive number) barcode = codes "drive entry " ++ decimal number
place_text (places.Cartridge number) barcode = codes "cartridge entry " ++ (decimal number ++ barcode_text barcode)

-- an entry by its number in its list, counted from 1 on, and by its barcode (own)
abbrev pub entry_text : Entry → List ℕ
entry_text entry = place_text entry.place entry.barcode

-- what a rule is about (own)
abbrev pub subject_of : Rule → List ℕ
subject_of (rules.OtherKind key) = name_of key
subject_of (rules.OutOfRange key) = name_of key
subject_of (rules.Double key) = name_of key
subject_of rules.NoSuchDrive = name_of key.Home
subject_of _ = codes "the entry"

-- the key that is missing (own)
abbrev pub missing_of : Rule → List ℕ
missing_of (rules.Missing key) = name_of key
missing_of _ = []

-- the value that is no capacity, where a list of capacities is refused for one (own)
abbrev pub outside_in : Rule → Seen → Option Outside
outside_in (rules.OtherKind key.Capacities) (seen.List count outside) = outside
outside_in (rules.OutOfRange key.Capacities) (seen.List count outside) = outside
outside_in _ _ = None

-- that a text stands where a value of another kind may stand: in quotation marks a number may be meant (own)
abbrev pub kind_text : Rule → Seen → List ℕ
kind_text (rules.OtherKind key) (seen.Text text) = codes ", a text"
kind_text _ _ = []

-- what is refused (own)
abbrev pub refused_text : Rule → Found → List ℕ
refused_text rule (found.NoText spot) = codes "refused: the text is not UTF-8"
refused_text rule (found.NoDocument spot message) = codes "refused: the text is no TOML: " ++ string_bytes message
refused_text rule (found.OtherKey name) = codes "refused: the key " ++ string_bytes name
refused_text rule found.Nothing = codes "refused: the key " ++ (missing_of rule ++ codes " is missing")
refused_text rule (found.Value value) =
    codes "refused: " ++ (subject_of rule ++ (codes " is " ++ (seen_text value ++ (among_text (outside_in rule value)
    ++ kind_text rule value))))

-- a place in a text (own)
abbrev pub spot_text : Spot → List ℕ
spot_text spot = codes "line " ++ (decimal spot.line ++ (codes ", column " ++ decimal spot.column))

-- where what was found stands (own)
abbrev pub found_place : Entry → Found → List ℕ
found_place entry (found.NoText spot) = spot_text spot
found_place entry (found.NoDocument spot message) = spot_text spot
found_place entry _ = entry_text entry

-- where a reason stands, and then the file of this name, of which a line may show less (own)
abbrev pub where_text : List ℕ → ConfigReason → List ℕ
where_text file reason = codes "where: " ++ (found_place reason.entry reason.found ++ (codes ", in " ++ file))

-- the values that a key may have; the limits are those that are checked (own)
abbrev pub values_text : Key → List ℕ
values_text key.Cartridge = codes "entries that begin with [[cartridge]]"
values_text key.Drive = codes "entries that begin with [[drive]]"
values_text key.Barcode = codes "a text of 1 to " ++ (decimal MAX_BARCODE ++ codes " characters, A to Z and 0 to 9")
values_text key.File = codes "a text, the name of a file"
values_text key.Reservations = codes "a text, the name of a file"
values_text key.Capacities =
    codes "a list of 1 to " ++ (decimal MAX_PARTITIONS ++ (codes " whole numbers, each of " ++ (decimal MIN_CAPACITY
    ++ (codes " to " ++ decimal MAX_CAPACITY))))
values_text key.Home =
    codes "a whole number: 1 to " ++ (decimal DRIVES ++ (codes ", a drive, or " ++ (decimal FIRST_SLOT
    ++ (codes " to " ++ (decimal (FIRST_SLOT + SLOTS - 1) ++ codes ", a slot")))))
values_text key.Number = codes "a whole number, 1 to " ++ decimal DRIVES

-- the keys that the table at a place has (own)
abbrev pub keys_text : Place → List ℕ
keys_text places.Top = codes "cartridge and drive"
keys_text (places.Drive number) = codes "number and reservations"
keys_text (places.Cartridge number) = codes "barcode, file, capacities and home"

-- what an earlier entry has: of a cartridge's two files the name of one, else the value (own)
abbrev pub has_text : Key → List ℕ
has_text key.File = codes " has one of them"
has_text _ = codes " has this one"

-- the earlier entry that has the value which may not occur twice (own)
abbrev pub other_text : Key → Option Entry → List ℕ
other_text key None = []
other_text key (Some entry) = codes "; " ++ (entry_text entry ++ has_text key)

-- what is allowed of a key whose values may not occur twice; a cartridge has a second file (own)
abbrev pub double_text : Key → List ℕ
double_text key.File = codes "a name that no entry before has, also with .2 behind it"
double_text _ = codes "a value that no entry before has"

-- what is allowed where a rule is broken (own)
abbrev pub allowed_by : Rule → Place → Option Entry → List ℕ
allowed_by rules.NotUtf8 place other = codes "allowed: UTF-8"
allowed_by rules.NotToml place other = codes "allowed: TOML"
allowed_by rules.NotATable place other = codes "allowed: a table"
allowed_by rules.OtherKey place other = codes "allowed: " ++ keys_text place
allowed_by (rules.Missing key) place other = codes "allowed: " ++ values_text key
allowed_by (rules.OtherKind key) place other = codes "allowed: " ++ values_text key
allowed_by (rules.OutOfRange key) place other = codes "allowed: " ++ values_text key
allowed_by (rules.Double key) place other = codes "allowed: " ++ (double_text key ++ other_text key other)
allowed_by rules.NoSuchDrive place other = codes "allowed: a slot, or a drive that has an entry"

-- what is allowed where a reason stands (own)
abbrev pub allowed_text : ConfigReason → List ℕ
allowed_text reason = allowed_by reason.rule reason.entry.place reason.other

-- what to do about a rule (own)
abbrev pub rule_fix : Rule → List ℕ
rule_fix rules.NotUtf8 = codes "to do: save the file as UTF-8"
rule_fix rules.NotToml = codes "to do: correct the text there, or on the lines before"
rule_fix rules.NotATable = codes "to do: write the entry as [[cartridge]] or [[drive]], with its keys below"
rule_fix rules.OtherKey = codes "to do: remove the key, or correct its name"
rule_fix (rules.Missing key) = codes "to do: add the key to the entry"
rule_fix (rules.OtherKind key) = codes "to do: change the value"
rule_fix (rules.OutOfRange key) = codes "to do: change the value"
rule_fix (rules.Double key) = codes "to do: change one of the two"
rule_fix rules.NoSuchDrive = codes "to do: add an entry of that drive, or choose another home"

-- the lines that explain why the configuration of a file is refused: what, where, what is allowed, what to do (own)
abbrev pub config_lines : List ℕ → ConfigReason → List ℕ
config_lines file reason =
    line_of (refused_text reason.rule reason.found) ++ (line_of (where_text file reason)
    ++ (line_of (allowed_text reason) ++ line_of (rule_fix reason.rule)))
