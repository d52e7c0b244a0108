-- Records with sums, at their place in the file, in a frame with a seed.
use Rattle.std.specs.Prelude.{◌≡◌, ◌≢◌, ◌≤◌, ◌<◌, ◌+◌, ◌^◌, ◌==◌, Bool, ℕ, List, [], ◌∷◌, ◌++◌, length, take, drop, Option, None, Some, if◌then◌else◌, false}
use Rattle.std.specs.List.{All}
use Rattle.std.specs.Int.{to_be_bytes, w32, w64}
use Rattle.byteorder.specs.Endian.{big_number}
use Rattle.crc32c.specs.Crc.{crc32c}
use Rattle.vtl_base.specs.declared.layout.TheConstants.{BLOCK, ERASE, HEAD_SUM, MARKS, RECORD_HEAD, SEALED_HEAD}
use Rattle.volume_core.specs.declared.changes.Change.{Change}
use Rattle.volume_core.specs.declared.changes.Change.TheVariants.{Put, Marks, Erase}
use Rattle.change_records.specs.declared.records.Record.{Record}
use Rattle.change_records.specs.declared.records.Record.TheVariants as Records
use Rattle.change_records.specs.Records.{IsRecord, change_with, record_length, record_of, spell_head}
use Rattle.change_records.specs.Readers.{head_item}

-- A change as it lies on a side with sums: the change, and the sum that its head has of its block (own).
pub record Laid : Type 0 where
  pub change : Change
  pub sum : ℕ

-- the bytes of a change's block; none where it has no block (own)
abbrev pub block_of : Change → List ℕ
block_of (Put part at block) = block
block_of (Marks part at count) = []
block_of (Erase part at) = []

-- the change with this sum (own)
abbrev pub laid_with : Change → ℕ → Laid
laid_with change sum = record { change = change; sum = sum }

-- the change as it is stored: with the sum of its block (own)
abbrev pub sealed : Change → Laid
sealed change = laid_with change (crc32c (block_of change))

-- the sum of the block is right (own)
abbrev pub HasItsSum : Laid → Type 0
HasItsSum laid = laid.sum ≡ crc32c (block_of laid.change)

-- the sums that a head may have: any of a block, 0 where there is no block (own)
abbrev pub IsSum : Change → ℕ → Type 0
IsSum (Put part at block) sum = sum < 2 ^ 32
IsSum (Marks part at count) sum = sum ≡ 0
IsSum (Erase part at) sum = sum ≡ 0

-- a change with a sum that can be spelled (own)
pub record IsLaid (laid : Laid) : Type 0 where
  pub change : IsRecord laid.change
  pub sum : IsSum laid.change laid.sum

-- the first ten bytes of a record (own)
abbrev pub head_spelled : Change → List ℕ
head_spelled (Put part at block) = spell_head BLOCK part at (length block)
head_spelled (Marks part at count) = spell_head MARKS part at count
head_spelled (Erase part at) = spell_head ERASE part at 0

-- the first fourteen bytes of a record: with the sum of the block behind the ten (own)
abbrev pub fields_laid : Laid → List ℕ
fields_laid laid = head_spelled laid.change ++ to_be_bytes w32 laid.sum

-- the sum of a head: over the seed of its frame, its place in the file and its first fourteen bytes (own)
abbrev pub head_sum : ℕ → ℕ → List ℕ → ℕ
head_sum seed place fields = crc32c (to_be_bytes w64 seed ++ to_be_bytes w64 place ++ fields)

-- a head of eighteen bytes (own)
abbrev pub spell_sealed_head : ℕ → ℕ → Laid → List ℕ
spell_sealed_head seed place laid = fields_laid laid ++ to_be_bytes w32 (head_sum seed place (fields_laid laid))

-- the bytes of a record: its head, and its block (own)
abbrev pub spell_laid : ℕ → ℕ → Laid → List ℕ
spell_laid seed place laid = spell_sealed_head seed place laid ++ block_of laid.change

-- how many bytes a record has, with its head (own)
abbrev pub laid_size : Laid → ℕ
laid_size laid = SEALED_HEAD + length (block_of laid.change)

-- the bytes of records, one after another, the first of which begins at this place of the file (own)
abbrev pub spell_laids : ℕ → ℕ → List Laid → List ℕ
spell_laids seed place [] = []
spell_laids seed place (laid ∷ laids) =
    spell_laid seed place laid ++ spell_laids seed (place + laid_size laid) laids

-- how many bytes records have (own)
abbrev pub laids_size : List Laid → ℕ
laids_size [] = 0
laids_size (laid ∷ laids) = laid_size laid + laids_size laids

-- the bytes at this place spell these records, in this order, and nothing more (own)
abbrev pub SpellsLaids : ℕ → ℕ → List ℕ → List Laid → Type 0
SpellsLaids seed place bytes laids = All IsLaid laids × (bytes ≡ spell_laids seed place laids)

-- the bytes at this place begin with the spelling of some record (own)
abbrev pub BeginsWithLaid : ℕ → ℕ → List ℕ → Type 0
BeginsWithLaid seed place bytes =
    (laid : Laid) × (rest : List ℕ) × IsLaid laid × (bytes ≡ spell_laid seed place laid ++ rest)

-- The bytes at this place begin with the spelling of a list of records, of that length. The rest is not empty, and
-- begins with no spelling of a record at its place (own).
pub record IsUnsealedAt (seed place : ℕ) (bytes : List ℕ) (at : ℕ) : Type 0 where
  pub laids : List Laid
  pub rest : List ℕ
  pub spelled : All IsLaid laids
  pub begins : bytes ≡ spell_laids seed place laids ++ rest
  pub at_is : at ≡ length (spell_laids seed place laids)
  pub some : rest ≢ []
  pub bad : BeginsWithLaid seed (place + at) rest → ⊥

-- the record, unless it has no block and the sum is not 0 (own)
abbrev pub item_with : ℕ → Option Record → Option Record
item_with sum None = None
item_with sum (Some (Records.Put part at size)) = Some (Records.Put part at size)
item_with sum (Some (Records.Marks part at count)) = if sum == 0 then Some (Records.Marks part at count) else None
item_with sum (Some (Records.Erase part at)) = if sum == 0 then Some (Records.Erase part at) else None

-- the sum of these eighteen bytes is that of their fields at this place (own)
abbrev pub is_summed : ℕ → ℕ → List ℕ → Bool
is_summed seed place head = big_number 4 (drop HEAD_SUM head) == head_sum seed place (take HEAD_SUM head)

-- Eighteen bytes are at this place, and their sum is not that of their fields there (own).
abbrev pub IsUnsummed : ℕ → ℕ → List ℕ → Type 0
IsUnsummed seed place bytes =
    (SEALED_HEAD ≤ length bytes) × (is_summed seed place (take SEALED_HEAD bytes) ≡ false)

-- what the head at the start of these bytes gives as the sum of its block (own)
abbrev pub sum_in : List ℕ → ℕ
sum_in bytes = big_number 4 (drop RECORD_HEAD bytes)

-- the record of these eighteen bytes at this place: none, where the head does not sum (own)
abbrev pub sealed_item : ℕ → ℕ → List ℕ → Option Record
sealed_item seed place head =
    if is_summed seed place head then item_with (sum_in head) (head_item (take RECORD_HEAD head)) else None

-- the record at the start of these bytes: its block follows the eighteen bytes of its head, in which its sum stands
-- (own)
abbrev pub laid_in : Record → List ℕ → Laid
laid_in item bytes =
    laid_with (change_with item (take (record_length item) (drop SEALED_HEAD bytes))) (sum_in bytes)

-- the bytes at this place begin with this record (own)
pub record IsSealedFront (seed place : ℕ) (item : Record) (bytes : List ℕ) : Type 0 where
  pub valid : IsLaid (laid_in item bytes)
  pub spelled : bytes ≡ spell_laid seed place (laid_in item bytes) ++ drop (SEALED_HEAD + record_length item) bytes
  pub within : SEALED_HEAD + record_length item ≤ length bytes
  pub of_it : record_of (laid_in item bytes).change ≡ item
