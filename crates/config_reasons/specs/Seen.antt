-- Values of a configuration, as they are shown.
use Rattle.std.specs.Prelude.{◌≡◌, ℕ, true, false, List, [], ◌++◌, Option, Some, None, String, string_bytes, codes, decimal, if◌then◌else◌}
use Rattle.std.specs.Fmt.{signed_decimal}
use Rattle.std.specs.declared.alloc.Global.{Global}
use Rattle.toml.specs.Data.{Data, string, integer, float, boolean, datetime, array, table, Items, no_items, item}
use Rattle.vtl_config.specs.Values.{count_items, is_capacity_value}
use Rattle.config_reasons.specs.declared.seen.Outside.{Outside}
use Rattle.config_reasons.specs.declared.seen.Outside.TheVariants.{Number, NoNumber}
use Rattle.config_reasons.specs.declared.seen.Seen.{Seen}
use Rattle.config_reasons.specs.declared.seen.Seen.TheVariants as seen

-- a value of a list, where it is no capacity (own)
abbrev pub item_outside : Data → Option Outside
item_outside (integer number) = if is_capacity_value (integer number) then None else Some (Number number)
item_outside _ = Some NoNumber

-- the first of two, if there is one, else the second (own)
abbrev pub first_of_two : Option Outside → Option Outside → Option Outside
first_of_two None other = other
first_of_two (Some one) other = Some one

-- the first of the items that is no capacity (own)
abbrev pub first_outside : Items → Option Outside
first_outside no_items = None
first_outside (item value rest) = first_of_two (item_outside value) (first_outside rest)

-- what a value is shown as (own)
abbrev pub IsSeen : Data → Seen → Type 0
IsSeen (string text) shown = (copy : String Global) × (shown ≡ seen.Text copy) × (string_bytes copy ≡ text)
IsSeen (integer number) shown = shown ≡ seen.Number number
IsSeen (float number) shown = shown ≡ seen.Fraction
IsSeen (boolean it) shown = shown ≡ seen.Boolean it
IsSeen (datetime it) shown = shown ≡ seen.Date
IsSeen (array items) shown = shown ≡ seen.List (count_items items) (first_outside items)
IsSeen (table entries) shown = shown ≡ seen.Table

-- a value of a list that is no capacity, if there is one (own)
abbrev pub among_text : Option Outside → List ℕ
among_text None = []
among_text (Some (Number number)) = codes ", one of which is " ++ signed_decimal number
among_text (Some NoNumber) = codes ", one of which is no whole number"

-- a value in words (own)
abbrev pub seen_text : Seen → List ℕ
seen_text (seen.Text text) = codes "'" ++ (string_bytes text ++ codes "'")
seen_text (seen.Number number) = signed_decimal number
seen_text seen.Fraction = codes "a number with a fraction"
seen_text (seen.Boolean true) = codes "true"
seen_text (seen.Boolean false) = codes "false"
seen_text seen.Date = codes "a date or a time"
seen_text (seen.List count outside) = codes "a list of " ++ decimal count
seen_text seen.Table = codes "a table"
