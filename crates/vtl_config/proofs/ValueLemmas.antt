-- What the kind of a value says of it.
use Rattle.std.proofs.Common.{◌≡◌, ℕ, ℤ, pos, negsuc, List, Some, None, ap}
use Rattle.std.proofs.lemmas.Option.{same_Some}
use Rattle.toml.specs.Data.{Data, string, integer, float, boolean, datetime, array, table, Items, Members, as_str, as_integer, as_array, as_table}
use Rattle.vtl_config.specs.declared.keys.Key.{Key}
use Rattle.vtl_config.specs.declared.keys.Key.TheVariants.{Cartridge, Drive, Barcode, File, Capacities, Home, Number, Reservations}
use Rattle.vtl_config.specs.Values.{kind_of_key, number, natural_of, IsWithin}

-- a value that is a text
pub string_value : (value : Data) (s : List ℕ) → as_str value ≡ Some s → value ≡ string s
string_value (string x) s e = ap string (same_Some _ _ e)
string_value (integer x) s e = cc
string_value (float x) s e = cc
string_value (boolean x) s e = cc
string_value (datetime x) s e = cc
string_value (array x) s e = cc
string_value (table x) s e = cc

-- a value that is an integer
pub integer_value : (value : Data) (n : ℤ) → as_integer value ≡ Some n → value ≡ integer n
integer_value (string x) n e = cc
integer_value (integer x) n e = ap integer (same_Some _ _ e)
integer_value (float x) n e = cc
integer_value (boolean x) n e = cc
integer_value (datetime x) n e = cc
integer_value (array x) n e = cc
integer_value (table x) n e = cc

-- a value that is a list
pub array_value : (value : Data) (items : Items) → as_array value ≡ Some items → value ≡ array items
array_value (string x) items e = cc
array_value (integer x) items e = cc
array_value (float x) items e = cc
array_value (boolean x) items e = cc
array_value (datetime x) items e = cc
array_value (array x) items e = ap array (same_Some _ _ e)
array_value (table x) items e = cc

-- a value that is a table
pub table_value : (value : Data) (inner : Members) → as_table value ≡ Some inner → value ≡ table inner
table_value (string x) inner e = cc
table_value (integer x) inner e = cc
table_value (float x) inner e = cc
table_value (boolean x) inner e = cc
table_value (datetime x) inner e = cc
table_value (array x) inner e = cc
table_value (table x) inner e = ap table (same_Some _ _ e)

-- a whole number
pub natural_value : (n : ℤ) (found : ℕ) → natural_of n ≡ Some found → n ≡ pos found
natural_value (pos n) found e = ap pos (same_Some _ _ e)
natural_value (negsuc n) found e = cc

-- an integer below 0 is no address and no number of a drive
pub below_zero : (key : Key) (n : ℤ) → kind_of_key key ≡ number → natural_of n ≡ None → ¬ IsWithin key (integer n)
below_zero Cartridge n k e = cc
below_zero Drive n k e = cc
below_zero Barcode n k e = cc
below_zero File n k e = cc
below_zero Capacities n k e = cc
below_zero Reservations n k e = cc
below_zero Home (pos n) k e = cc
below_zero Home (negsuc n) k e = λ h. h
below_zero Number (pos n) k e = cc
below_zero Number (negsuc n) k e = λ h. h
