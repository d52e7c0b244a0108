-- The barcodes of the cartridges of a library, by element address.
use Rattle.std.specs.Prelude.{ℕ, nat_eq, Bool, List, [], ◌∷◌, ◌++◌, map, flat_map, Option, None, Some, if◌then◌else◌}
use Rattle.std.specs.List.{range_with_len}
use Rattle.vtl_base.specs.declared.limits.TheConstants.{DRIVES, FIRST_SLOT, SLOTS}
use Rattle.library.specs.Counts.{has_drive}
use Rattle.vtl_wire.specs.declared.answers.Entry.{Entry}
use Rattle.vtl_serve.specs.declared.labels.Label.{Label}

-- the barcode of the first cartridge that is at this element address, where one is (own)
abbrev pub barcode_at : List Label → ℕ → Option (List ℕ)
barcode_at [] address = None
barcode_at (label ∷ labels) address =
    if nat_eq label.address address then Some label.barcode else barcode_at labels address

-- a cartridge that was at one element address is at another (own)
abbrev pub carried_one : ℕ → ℕ → Label → Label
carried_one from to label =
    record { address = if nat_eq label.address from then to else label.address; barcode = label.barcode }

-- the cartridges that were at one element address are at another (own)
abbrev pub carried : ℕ → ℕ → List Label → List Label
carried from to labels = map (carried_one from to) labels

-- what an inventory says of an element address (own)
abbrev pub entry_at : List Label → ℕ → Entry
entry_at labels address = record { address = address; barcode = barcode_at labels address }

-- what an inventory says of a drive: nothing, where none with this number is configured (own)
abbrev pub drive_entry : List Bool → List Label → ℕ → List Entry
drive_entry drives labels number = if has_drive drives number then entry_at labels number ∷ [] else []

-- what an inventory says: of each configured drive, and of each slot, by rising element address (own)
abbrev pub inventory_of : List Bool → List Label → List Entry
inventory_of drives labels =
    flat_map (drive_entry drives labels) (range_with_len 1 DRIVES)
    ++ map (entry_at labels) (range_with_len FIRST_SLOT SLOTS)
