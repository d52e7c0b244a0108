-- The head of a side: its heading, and for a copy its epoch and base.
use Rattle.std.specs.Prelude.{◌≡◌, ◌<◌, ◌^◌, ℕ, ◌+◌, List, [], ◌∷◌, ◌++◌, length, Option, None, Some}
use Rattle.std.specs.List.{flat_map}
use Rattle.std.specs.Int.{to_be_bytes, w32, w64}
use Rattle.vtl_base.specs.declared.layout.TheConstants.{COPY_BIT}
use Rattle.gate_journal.specs.declared.header.SideKind.{SideKind}
use Rattle.gate_journal.specs.declared.header.SideKind.TheVariants.{Cartridge, Store}
use Rattle.gate_journal.specs.declared.heads.Copied.{Copied}
use Rattle.gate_journal.specs.declared.heads.ParsedHead.{ParsedHead}
use Rattle.gate_journal.specs.Headings.{Heading, IsHeading}

-- The heading of a side, and for a copy its epoch and base. The gates in the ten bytes before it have no part in it
-- (own).
pub record Head : Type 0 where
  pub heading : Heading
  pub copied : Option Copied

-- the epoch; 0 for a side that is no copy (own)
abbrev pub epoch_in : Option Copied → ℕ
epoch_in None = 0
epoch_in (Some copied) = copied.epoch

-- the base; 0 for a side that is no copy (own)
abbrev pub base_in : Option Copied → ℕ
base_in None = 0
base_in (Some copied) = copied.base

-- how often the cartridge was reclaimed, by the head of its side (own)
abbrev pub epoch_of : Head → ℕ
epoch_of head = epoch_in head.copied

-- how many of the side's frames are the copy (own)
abbrev pub base_of : Head → ℕ
base_of head = base_in head.copied

-- the count of capacities, plus 80h for a copy (own)
abbrev pub count_byte : Option Copied → ℕ → ℕ
count_byte None count = count
count_byte (Some copied) count = COPY_BIT + count

-- the bytes of epoch and base (own)
abbrev pub spell_copied : Option Copied → List ℕ
spell_copied None = []
spell_copied (Some copied) = to_be_bytes w64 copied.epoch ++ to_be_bytes w32 copied.base

-- the bytes of a head, from place 10 on: the count, the name, the capacities, and for a copy its epoch and base (own)
abbrev pub spell_side_head : Head → List ℕ
spell_side_head head =
    count_byte head.copied (length head.heading.capacities) ∷ head.heading.name
    ++ flat_map (to_be_bytes w64) head.heading.capacities ++ spell_copied head.copied

-- epoch and base fit their width, and a store is no copy (own)
abbrev pub IsCopied : SideKind → Option Copied → Type 0
IsCopied kind None = Unit {0}
IsCopied Cartridge (Some copied) = (copied.epoch < 2 ^ 64) × (copied.base < 2 ^ 32)
IsCopied Store (Some copied) = ⊥

-- a head that can be spelled (own)
pub record IsHead (head : Head) : Type 0 where
  pub heading : IsHeading head.heading
  pub copied : IsCopied head.heading.kind head.copied

-- the bytes begin with the head of a cartridge's side (own)
abbrev pub BeginsWithHead : List ℕ → Type 0
BeginsWithHead bytes =
    (head : Head) × (rest : List ℕ) × (head.heading.kind ≡ Cartridge) × IsHead head
    × (bytes ≡ spell_side_head head ++ rest)

-- what is read from a head: its epoch and base, if it is of a copy, and its length in bytes (own)
abbrev pub IsParsedHead : ParsedHead → Head → Type 0
IsParsedHead parsed head = (parsed.size ≡ length (spell_side_head head)) × (parsed.copied ≡ head.copied)

-- what is read from the head of a cartridge's side at the start of the bytes; None where they begin with no head (own)
abbrev pub ParsesHead : List ℕ → Option ParsedHead → Type 0
ParsesHead bytes None = BeginsWithHead bytes → ⊥
ParsesHead bytes (Some parsed) =
    (head : Head) × (rest : List ℕ) × (head.heading.kind ≡ Cartridge) × IsHead head
    × (bytes ≡ spell_side_head head ++ rest) × IsParsedHead parsed head
