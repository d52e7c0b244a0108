-- Which bytes spell a change, and which a list of changes.
use Rattle.std.specs.Prelude.{◌≡◌, ◌≢◌, ◌≤◌, ◌<◌, ◌+◌, ◌^◌, ℕ, List, [], ◌∷◌, ◌++◌, length, take, drop, replicate}
use Rattle.std.specs.List.{All, flat_map}
use Rattle.std.specs.Int.{to_be_bytes, w32}
use Rattle.vtl_base.specs.declared.layout.TheConstants.{BLOCK, ERASE, MARKS, RECORD_HEAD}
use Rattle.vtl_base.specs.declared.limits.TheConstants.{MAX_BLOCK, MAX_OBJECTS}
use Rattle.volume_core.specs.declared.changes.Change.{Change}
use Rattle.volume_core.specs.declared.changes.Change.TheVariants.{Put, Marks, Erase}
use Rattle.change_records.specs.declared.records.Record.{Record}
use Rattle.change_records.specs.declared.records.Record.TheVariants as Records
use Rattle.change_records.specs.declared.records.RecordError.{RecordError}
use Rattle.change_records.specs.declared.records.RecordError.TheVariants.{BadRecord, NoMemory}

-- the head of each record: kind, partition, object number, number (own)
abbrev pub spell_head : ℕ → ℕ → ℕ → ℕ → List ℕ
spell_head kind part at number = kind ∷ part ∷ to_be_bytes w32 at ++ to_be_bytes w32 number

-- The bytes of a change: for a block its length and the block, for marks their count, for an erase the number 0 (own).
abbrev pub spell_change : Change → List ℕ
spell_change (Put part at block) = spell_head BLOCK part at (length block) ++ block
spell_change (Marks part at count) = spell_head MARKS part at count
spell_change (Erase part at) = spell_head ERASE part at 0

-- partition and object number fit their width (own)
abbrev pub IsTarget : ℕ → ℕ → Type 0
IsTarget part at = (part < 2 ^ 8) × (at < 2 ^ 32)

-- a change that has a spelling: partition and object number fit their width, a block has 1 to 1,048,576 bytes, and
-- there are 1 to 16,000,000 marks (own)
abbrev pub IsRecord : Change → Type 0
IsRecord (Put part at block) = IsTarget part at × (1 ≤ length block) × (length block ≤ MAX_BLOCK)
IsRecord (Marks part at count) = IsTarget part at × (1 ≤ count) × (count ≤ MAX_OBJECTS)
IsRecord (Erase part at) = IsTarget part at

-- the bytes spell the change (own)
abbrev pub Spells : List ℕ → Change → Type 0
Spells bytes change = IsRecord change × (bytes ≡ spell_change change)

-- the bytes of changes, one after another (own)
abbrev pub spell_all : List Change → List ℕ
spell_all changes = flat_map spell_change changes

-- the bytes spell these changes, in this order, and nothing more (own)
abbrev pub SpellsAll : List ℕ → List Change → Type 0
SpellsAll bytes changes = All IsRecord changes × (bytes ≡ spell_all changes)

-- the bytes begin with the spelling of some change (own)
abbrev pub BeginsWithRecord : List ℕ → Type 0
BeginsWithRecord bytes = (change : Change) × (rest : List ℕ) × IsRecord change × (bytes ≡ spell_change change ++ rest)

-- The bytes begin with the spelling of a list of changes, of that length. The rest is not empty, and begins with no
-- spelling of a change (own).
pub record IsBadAt (bytes : List ℕ) (at : ℕ) : Type 0 where
  pub changes : List Change
  pub rest : List ℕ
  pub spelled : All IsRecord changes
  pub begins : bytes ≡ spell_all changes ++ rest
  pub at_is : at ≡ length (spell_all changes)
  pub some : rest ≢ []
  pub bad : BeginsWithRecord rest → ⊥

-- why bytes are not decoded: a bad record at that place; or memory ran out, where the bytes begin with a record (own)
abbrev pub NotDecoded : List ℕ → RecordError → Type 0
NotDecoded bytes (BadRecord at) = IsBadAt bytes at
NotDecoded bytes NoMemory = BeginsWithRecord bytes

-- the record of a change: all but the bytes of its block (own)
abbrev pub record_of : Change → Record
record_of (Put part at block) = Records.Put part at (length block)
record_of (Marks part at count) = Records.Marks part at count
record_of (Erase part at) = Records.Erase part at

-- the length of a record in bytes, with its block (own)
abbrev pub size_of : Record → ℕ
size_of (Records.Put part at length) = RECORD_HEAD + length
size_of (Records.Marks part at count) = RECORD_HEAD
size_of (Records.Erase part at) = RECORD_HEAD

-- the change of a record, with these bytes for its block (own)
abbrev pub change_with : Record → List ℕ → Change
change_with (Records.Put part at length) block = Put part at block
change_with (Records.Marks part at count) block = Marks part at count
change_with (Records.Erase part at) block = Erase part at

-- the length of its block in bytes, 0 where it has no block (own)
abbrev pub record_length : Record → ℕ
record_length (Records.Put part at length) = length
record_length (Records.Marks part at count) = 0
record_length (Records.Erase part at) = 0

-- the partition of a record (own)
abbrev pub record_part : Record → ℕ
record_part (Records.Put part at length) = part
record_part (Records.Marks part at count) = part
record_part (Records.Erase part at) = part

-- how many objects of the partition stay (own)
abbrev pub record_staying : Record → ℕ
record_staying (Records.Put part at length) = at
record_staying (Records.Marks part at count) = at
record_staying (Records.Erase part at) = at

-- the change of a record with each byte of its block 00h (own)
abbrev pub outlined : Record → Change
outlined item = change_with item (replicate (record_length item) 0)

-- the change of a record at the start of these bytes: its block follows the ten bytes of its head (own)
abbrev pub change_in : Record → List ℕ → Change
change_in item bytes = change_with item (take (record_length item) (drop RECORD_HEAD bytes))

-- the bytes begin with this record: with the spelling of its change there, whose record it is (own)
pub record IsAtFront (item : Record) (bytes : List ℕ) : Type 0 where
  pub valid : IsRecord (change_in item bytes)
  pub spelled : bytes ≡ spell_change (change_in item bytes) ++ drop (size_of item) bytes
  pub sized : length (spell_change (change_in item bytes)) ≡ size_of item
  pub within : size_of item ≤ length bytes
  pub of_it : record_of (change_in item bytes) ≡ item
