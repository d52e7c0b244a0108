-- What a reader takes for the head of a cartridge's side, before it is known to be a head.
use Rattle.std.specs.Prelude.{ℕ, ◌-◌, ◌*◌, List, take, drop, slice_index, Bool, true, false, Option, None, Some}
use Rattle.byteorder.specs.Endian.{big_number}
use Rattle.vtl_base.specs.declared.layout.TheConstants.{BEGUN_BYTES, CAPACITY_BYTES, COPY_BIT, EPOCH_BYTES, NAME_BYTES, START_BYTES}
use Rattle.gate_journal.specs.declared.header.SideKind.{SideKind}
use Rattle.gate_journal.specs.declared.header.SideKind.TheVariants.{Cartridge}
use Rattle.gate_journal.specs.declared.heads.Copied.{Copied}
use Rattle.gate_journal.specs.Side.{Heading}
use Rattle.gate_journal.specs.Heads.{Head}
use Rattle.gate_journal.specs.Inner.Reading.{numbers_of}

-- name and capacities in the bytes of a head that end with these (own)
abbrev pub heading_in : List ℕ → Heading
heading_in bytes = record {
  kind = Cartridge;
  name = take NAME_BYTES (drop 1 bytes);
  capacities = numbers_of (drop (START_BYTES - BEGUN_BYTES) bytes);
}

-- a head is that of a copy (own)
abbrev pub is_copy : Option Copied → Bool
is_copy None = false
is_copy (Some copied) = true

-- how many capacities the byte of the count says (own)
abbrev pub count_in : Bool → ℕ → ℕ
count_in false byte = byte
count_in true byte = byte - COPY_BIT

-- epoch and base at the start of bytes (own)
abbrev pub copied_in : Bool → List ℕ → Option Copied
copied_in false bytes = None
copied_in true bytes =
    Some (record { epoch = big_number EPOCH_BYTES bytes; base = big_number 4 (drop EPOCH_BYTES bytes) })

-- the head of this kind of side, of a copy or not, with which the bytes can begin (own)
abbrev pub head_as : SideKind → Bool → List ℕ → Head
head_as kind copy bytes = record {
  heading = record {
    kind = kind;
    name = take NAME_BYTES (drop 1 bytes);
    capacities =
        numbers_of (take (CAPACITY_BYTES * count_in copy (slice_index bytes 0))
        (drop (START_BYTES - BEGUN_BYTES) bytes));
  };
  copied =
      copied_in copy (drop (CAPACITY_BYTES * count_in copy (slice_index bytes 0))
      (drop (START_BYTES - BEGUN_BYTES) bytes));
}
