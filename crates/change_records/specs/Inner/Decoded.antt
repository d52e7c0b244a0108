-- The record that bytes begin with, as a function.
use Rattle.std.specs.Prelude.{ℕ, ◌-◌, ◌==◌, List, length, drop, slice_index, Option, None, Some, nat_le, nat_lt, ◌&&◌, if◌then◌else◌}
use Rattle.vtl_base.specs.declared.limits.TheConstants.{MAX_BLOCK, MAX_OBJECTS}
use Rattle.byteorder.specs.Endian.{big_number}
use Rattle.vtl_base.specs.declared.layout.TheConstants.{BLOCK, ERASE, MARKS, RECORD_HEAD, RECORD_NUMBER, RECORD_OBJECT}
use Rattle.change_records.specs.declared.records.Record.{Record}
use Rattle.change_records.specs.declared.records.Record.TheVariants.{Put, Marks, Erase}

-- a block of 1 to 1,048,576 bytes, for which at least as many are there (own)
abbrev pub block_decoded : ℕ → ℕ → ℕ → ℕ → Option Record
block_decoded part at number there =
    if nat_le 1 number && nat_le number MAX_BLOCK && nat_le number there then Some (Put part at number) else None

-- 1 to 16,000,000 marks (own)
abbrev pub marks_decoded : ℕ → ℕ → ℕ → Option Record
marks_decoded part at number =
    if nat_le 1 number && nat_le number MAX_OBJECTS then Some (Marks part at number) else None

-- an erase has the number 0 (own)
abbrev pub erase_decoded : ℕ → ℕ → ℕ → Option Record
erase_decoded part at number = if number == 0 then Some (Erase part at) else None

-- the record of a head, by its kind (own)
abbrev pub kind_decoded : ℕ → ℕ → ℕ → ℕ → ℕ → Option Record
kind_decoded kind part at number there =
    if kind == BLOCK then block_decoded part at number there
    else (if kind == MARKS then marks_decoded part at number
    else (if kind == ERASE then erase_decoded part at number
    else None))

-- the record whose head begins the bytes, if the `there` bytes after it suffice for its block (own)
abbrev pub head_decoded : List ℕ → ℕ → Option Record
head_decoded head there =
    kind_decoded (slice_index head 0) (slice_index head 1) (big_number 4 (drop RECORD_OBJECT head))
    (big_number 4 (drop RECORD_NUMBER head)) there

-- the record that begins the bytes, if there is one (own)
abbrev pub decoded : List ℕ → Option Record
decoded bytes = if nat_lt (length bytes) RECORD_HEAD then None else head_decoded bytes (length bytes - RECORD_HEAD)
