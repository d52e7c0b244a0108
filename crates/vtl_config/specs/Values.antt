-- The values that the keys of a configuration may have.
use Rattle.std.specs.Prelude.{◌≡◌, ◌≤◌, ◌<◌, ◌-◌, ◌⊎◌, ◌&&◌, ℕ, suc, ℤ, pos, negsuc, Bool, true, false, Option, Some, None, IsTrue, IsSomeAnd, nat_le, is_some, ⊤}
use Rattle.toml.specs.Data.{Data, string, integer, array, Items, no_items, item, Members, get_member, as_str, as_integer, as_array}
use Rattle.vtl_base.specs.Barcode.{IsBarcode}
use Rattle.vtl_base.specs.Limits.{is_capacity}
use Rattle.vtl_base.specs.declared.limits.TheConstants.{DRIVES, SLOTS, FIRST_SLOT, MAX_PARTITIONS}
use Rattle.vtl_config.specs.declared.keys.Key.{Key}
use Rattle.vtl_config.specs.declared.keys.Key.TheVariants.{Cartridge, Drive, Barcode, File, Capacities, Home, Number, Reservations}
use Rattle.vtl_config.specs.declared.rules.Rule.{Rule}
use Rattle.vtl_config.specs.declared.rules.Rule.TheVariants.{Missing, OtherKind, OutOfRange}
use Rattle.vtl_config.specs.Keys.{name_of}

-- the value of a key of a table, if it has the key (own)
abbrev pub value_at : Key → Members → Option Data
value_at key entry = get_member (name_of key) entry

-- a whole number, from 0 on, as a value (own)
abbrev pub whole : ℕ → Data
whole n = integer (pos n)

-- the kinds of values: a text, a whole number, a list, a list of whole numbers (own)
pub data Kind : Type 0 where
  text : Kind
  number : Kind
  entries : Kind
  numbers : Kind

-- the kind of a key's value (own)
abbrev pub kind_of_key : Key → Kind
kind_of_key Cartridge = entries
kind_of_key Drive = entries
kind_of_key Barcode = text
kind_of_key File = text
kind_of_key Capacities = numbers
kind_of_key Home = number
kind_of_key Number = number
kind_of_key Reservations = text

-- each of the items passes the test (own)
abbrev pub items_all : (Data → Bool) → Items → Bool
items_all test no_items = true
items_all test (item value rest) = test value && items_all test rest

-- how many items there are (own)
abbrev pub count_items : Items → ℕ
count_items no_items = 0
count_items (item value rest) = suc (count_items rest)

-- the value is an integer (own)
abbrev pub is_integer : Data → Bool
is_integer value = is_some (as_integer value)

-- the value is of this kind (own)
abbrev pub is_of_kind : Kind → Data → Bool
is_of_kind text value = is_some (as_str value)
is_of_kind number value = is_integer value
is_of_kind entries value = is_some (as_array value)
is_of_kind numbers (array items) = items_all is_integer items
is_of_kind numbers _ = false

-- a drive's number, which is its element address: 1 to 16 (own)
abbrev pub IsDriveNumber : ℕ → Type 0
IsDriveNumber n = (1 ≤ n) × (n ≤ DRIVES)

-- an element address: a drive's, or a slot's, 1001 to 1256 (own)
abbrev pub IsAddress : ℕ → Type 0
IsAddress n = IsDriveNumber n ⊎ ((FIRST_SLOT ≤ n) × (n - FIRST_SLOT < SLOTS))

-- the value is a capacity, 4,096 to 1,099,511,627,776 bytes (own)
abbrev pub is_capacity_value : Data → Bool
is_capacity_value (integer (pos n)) = is_capacity n
is_capacity_value _ = false

-- 1 to 4 capacities (own)
abbrev pub hold_capacities : Items → Bool
hold_capacities items =
    (nat_le 1 (count_items items) && nat_le (count_items items) MAX_PARTITIONS) && items_all is_capacity_value items

-- the whole number that an integer is, from 0 on (own)
abbrev pub natural_of : ℤ → Option ℕ
natural_of (pos n) = Some n
natural_of (negsuc n) = None

-- a value of its kind is within its limits; a file's name has none (own)
abbrev pub IsWithin : Key → Data → Type 0
IsWithin Barcode (string name) = IsBarcode name
IsWithin Capacities (array items) = IsTrue (hold_capacities items)
IsWithin Home (integer n) = IsSomeAnd (natural_of n) IsAddress
IsWithin Number (integer n) = IsSomeAnd (natural_of n) IsDriveNumber
IsWithin _ _ = ⊤

-- The rule that a key's value breaks: it is missing, of another kind, or outside its limits (own).
pub data Misfits (key : Key) (found : Option Data) (rule : Rule) : Type 0 where
  missing : rule ≡ Missing key → found ≡ None → Misfits key found rule
  other_kind :
      (value : Data) → rule ≡ OtherKind key → found ≡ Some value → is_of_kind (kind_of_key key) value ≡ false
      → Misfits key found rule
  out_of_range :
      (value : Data) → rule ≡ OutOfRange key → found ≡ Some value → is_of_kind (kind_of_key key) value ≡ true
      → ¬ IsWithin key value → Misfits key found rule
