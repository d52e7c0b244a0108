-- Why a text is no configuration.
use Rattle.std.specs.Prelude.{◌≡◌, ◌≤◌, ◌<◌, ℕ, false, List, Some, None, IfSome, option_map, String, string_bytes, IsUtf8, length, take}
use Rattle.std.specs.List.{Contains}
use Rattle.std.specs.declared.alloc.Global.{Global}
use Rattle.toml.specs.Data.{Data, Members}
use Rattle.toml.specs.Errors.{IsMemory, span_start}
use Rattle.toml.specs.Parse.{parse_document}
use Rattle.toml.specs.declared.de.error.Error.{Error}
use Rattle.vtl_config.specs.Keys.{top_keys, drive_keys, cartridge_keys, keys_of, is_one_of}
use Rattle.vtl_config.specs.Values.{value_at}
use Rattle.vtl_config.specs.declared.keys.Key.{Key}
use Rattle.vtl_config.specs.declared.keys.Key.TheVariants.{Barcode}
use Rattle.vtl_config.specs.declared.rules.Place.{Place}
use Rattle.vtl_config.specs.declared.rules.Place.TheVariants as places
use Rattle.vtl_config.specs.declared.rules.Rule.{Rule}
use Rattle.vtl_config.specs.declared.rules.Rule.TheVariants as rules
use Rattle.config_reasons.specs.Doubles.{IsDouble}
use Rattle.config_reasons.specs.Entries.{table_at, text_at, value_for}
use Rattle.config_reasons.specs.Seen.{IsSeen}
use Rattle.config_reasons.specs.Spots.{spot_at}
use Rattle.config_reasons.specs.declared.reasons.ConfigReason.{ConfigReason}
use Rattle.config_reasons.specs.declared.reasons.Entry.{Entry}
use Rattle.config_reasons.specs.declared.reasons.Found.{Found}
use Rattle.config_reasons.specs.declared.reasons.Found.TheVariants as found
use Rattle.config_reasons.specs.declared.seen.Seen.{Seen}

-- the keys that the table at a place has (own)
abbrev pub keys_at : Place → List Key
keys_at places.Top = top_keys
keys_at (places.Drive number) = drive_keys
keys_at (places.Cartridge number) = cartridge_keys

-- the entry is that at a place of the text's table, with the barcode that stands there, if one does (own)
pub record IsEntryAt (place : Place) (root : Members) (entry : Entry) : Type 0 where
  pub place_is : entry.place ≡ place
  pub barcode_is : option_map (λ text. string_bytes text) entry.barcode ≡ text_at place Barcode root

-- a key of a table that its place does not have (own)
abbrev pub IsOtherKey : Place → Members → Found → Type 0
IsOtherKey place table shown =
    (name : String Global) × (shown ≡ found.OtherKey name) × Contains (keys_of table) (string_bytes name)
    × (is_one_of (keys_at place) (string_bytes name) ≡ false)

-- a key that a table does not have (own)
abbrev pub IsMissing : Key → Members → Found → Type 0
IsMissing key table shown = (shown ≡ found.Nothing) × (value_at key table ≡ None)

-- what breaks a rule at a place of the text's table: another key, a missing one, or a value (own)
abbrev pub IsFoundIn : Place → Rule → Members → Found → Type 0
IsFoundIn place rules.OtherKey root shown =
    (table : Members) × (table_at place root ≡ Some table) × IsOtherKey place table shown
IsFoundIn place (rules.Missing key) root shown =
    (table : Members) × (table_at place root ≡ Some table) × IsMissing key table shown
IsFoundIn place rule root shown =
    (value : Data) × (seen : Seen) × (shown ≡ found.Value seen) × (value_for place rule root ≡ Some value)
    × IsSeen value seen

-- an earlier entry that has the value of the rule's key too (own)
abbrev pub IsOtherIn : Place → Rule → Members → Entry → Type 0
IsOtherIn place (rules.Double key) root other = (at : Place) × IsEntryAt at root other × IsDouble key place root at
IsOtherIn place _ root other = ⊥

-- why a text's table breaks a rule at a place (own)
pub record IsReasonIn (place : Place) (rule : Rule) (root : Members) (reason : ConfigReason) : Type 0 where
  pub rule_is : reason.rule ≡ rule
  pub entry_is : IsEntryAt place root reason.entry
  pub found_is : IsFoundIn place rule root reason.found
  pub other_is : IfSome reason.other (IsOtherIn place rule root)

-- a reason that stands outside all entries (own)
abbrev pub outside : Rule → Found → ConfigReason
outside rule shown = record {
  rule = rule;
  entry = record { place = places.Top; barcode = None };
  found = shown;
  other = None;
}

-- the first bytes of a text that are not UTF-8 are here (own)
abbrev pub IsNoText : List ℕ → Found → Type 0
IsNoText text shown =
    (behind : ℕ) × (shown ≡ found.NoText (spot_at text behind)) × (behind ≤ length text)
    × (IsUtf8 (take behind text)) × ((more : ℕ) → behind < more → ¬ IsUtf8 (take more text))

-- the parser refused a text at this place, which lies within it; memory did not run out (own)
abbrev pub IsStoppedAt : List ℕ → Error → Found → Type 0
IsStoppedAt text error shown =
    (message : String Global) × (shown ≡ found.NoDocument (spot_at text (span_start error)) message)
    × (span_start error ≤ length text) × ¬ IsMemory error

-- a text is not a TOML document; the place that is shown lies within it (own)
abbrev pub IsNoTable : List ℕ → Found → Type 0
IsNoTable text shown =
    (behind : ℕ) × (message : String Global) × (shown ≡ found.NoDocument (spot_at text behind) message)
    × (behind ≤ length text) × (parse_document text ≡ None)

-- a text is UTF-8, and not a TOML document (own)
abbrev pub IsNoDocument : List ℕ → Found → Type 0
IsNoDocument text shown = IsUtf8 text × IsNoTable text shown

-- why the table of a text breaks a rule at a place (own)
abbrev pub IsTableReason : List ℕ → Place → Rule → ConfigReason → Type 0
IsTableReason text place rule reason =
    (root : Members) × (parse_document text ≡ Some root) × IsReasonIn place rule root reason

-- why a text breaks a rule at a place (own)
abbrev pub IsConfigReason : List ℕ → Place → Rule → ConfigReason → Type 0
IsConfigReason text place rules.NotUtf8 reason =
    (shown : Found) × (reason ≡ outside rules.NotUtf8 shown) × IsNoText text shown
IsConfigReason text place rules.NotToml reason =
    (shown : Found) × (reason ≡ outside rules.NotToml shown) × IsNoDocument text shown
IsConfigReason text place rule reason = IsTableReason text place rule reason
