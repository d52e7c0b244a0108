-- The keys of a configuration.
use Rattle.std.specs.Prelude.{ℕ, Bool, List, [], ◌∷◌, codes}
use Rattle.std.specs.List.{list_any, list_all}
use Rattle.std.specs.Str.{bytes_eq}
use Rattle.toml.specs.Data.{Members, no_members, member}
use Rattle.vtl_config.specs.declared.keys.Key.{Key}
use Rattle.vtl_config.specs.declared.keys.Key.TheVariants.{Cartridge, Drive, Barcode, File, Capacities, Home, Number, Reservations}

-- a key as a text has it (own)
abbrev pub name_of : Key → List ℕ
name_of Cartridge = codes "cartridge"
name_of Drive = codes "drive"
name_of Barcode = codes "barcode"
name_of File = codes "file"
name_of Capacities = codes "capacities"
name_of Home = codes "home"
name_of Number = codes "number"
name_of Reservations = codes "reservations"

-- the keys at the top (own)
abbrev pub top_keys : List Key
top_keys = Cartridge ∷ Drive ∷ []

-- the keys of a drive's table (own)
abbrev pub drive_keys : List Key
drive_keys = Number ∷ Reservations ∷ []

-- the keys of a cartridge's table (own)
abbrev pub cartridge_keys : List Key
cartridge_keys = Barcode ∷ File ∷ Capacities ∷ Home ∷ []

-- the keys of a table (own)
abbrev pub keys_of : Members → List (List ℕ)
keys_of no_members = []
keys_of (member key value rest) = key ∷ keys_of rest

-- the name is that of one of these keys (own)
abbrev pub is_one_of : List Key → List ℕ → Bool
is_one_of keys name = list_any (λ key. bytes_eq (name_of key) name) keys

-- the table has no key but these (own)
abbrev pub has_only : List Key → Members → Bool
has_only keys table = list_all (is_one_of keys) (keys_of table)
