-- The state of a reader of records after the first bytes of a body, however these were cut.
use Rattle.std.specs.Prelude.{◌≡◌, ◌≤◌, ◌<◌, ◌+◌, ◌-◌, ℕ, List, [], ◌∷◌, ◌++◌, length, take, drop, Option, None, Some, Result, Ok, Err}
use Rattle.std.specs.List.{All}
use Rattle.vtl_base.specs.declared.layout.TheConstants.{RECORD_HEAD}
use Rattle.vtl_base.specs.declared.limits.TheConstants.{MAX_BLOCK}
use Rattle.volume_core.specs.declared.changes.Change.{Change}
use Rattle.change_records.specs.declared.records.Record.{Record}
use Rattle.change_records.specs.declared.records.RecordError.{RecordError}
use Rattle.change_records.specs.declared.records.RecordError.TheVariants.{BadRecord, NoMemory}
use Rattle.change_records.specs.declared.reader.Found.{Found}
use Rattle.change_records.specs.declared.reader.Fed.{Fed}
use Rattle.change_records.specs.declared.reader.Fed.TheVariants as Feds
use Rattle.change_records.specs.Records.{IsAtFront, IsBadAt, IsRecord, SpellsAll, change_in, record_length, spell_all}
use Rattle.change_records.specs.Inner.Decoded.{head_decoded}

-- A reader: the bytes so far of the present record's head, what they give, how many bytes of its block are still to
-- come, where in the body it begins, and how many bytes of the body came (own).
pub record ReaderState : Type 0 where
  pub head : List ℕ
  pub item : Record
  pub left : ℕ
  pub begin : ℕ
  pub at : ℕ

-- the record that ten bytes give, however many bytes follow (own)
abbrev pub head_item : List ℕ → Option Record
head_item head = head_decoded head MAX_BLOCK

-- whatever follows, the record stands there, if enough bytes for its block follow (own)
abbrev pub IsHeadOf : Record → List ℕ → Type 0
IsHeadOf item head = (tail : List ℕ) → record_length item ≤ length tail → IsAtFront item (head ++ tail)

-- The bytes begin with these changes, up to `begin`; the head is the first ten bytes from there, as far as they came
-- (own).
pub record Stands (bytes : List ℕ) (changes : List Change) (begin at : ℕ) (head : List ℕ) : Type 0 where
  pub spelled : All IsRecord changes
  pub begins : bytes ≡ spell_all changes ++ drop begin bytes
  pub begin_is : begin ≡ length (spell_all changes)
  pub within : begin ≤ length bytes
  pub at_is : at ≡ length bytes
  pub head_is : head ≡ take RECORD_HEAD (drop begin bytes)

-- of the block of this record `there` bytes came, and `left` are still to come, at least one; 0 without a record (own)
abbrev pub IsLeft : Option Record → ℕ → ℕ → Type 0
IsLeft None there left = left ≡ 0
IsLeft (Some item) there left = (1 ≤ left) × (there + left ≡ record_length item)

-- the head gives the record, which stands there wherever enough bytes follow (own)
pub record IsDecoded (item : Record) (head : List ℕ) : Type 0 where
  pub item_is : head_item head ≡ Some item
  pub front : IsHeadOf item head

-- The bytes are these changes, followed by less than a record, or by bytes that begin with no record however they go
-- on. The reader has what it must know of them (own).
pub record IsAfter (bytes : List ℕ) (changes : List Change) (reader : ReaderState) : Type 0 where
  pub stands : Stands bytes changes reader.begin reader.at reader.head
  pub starts : length reader.head < RECORD_HEAD → reader.left ≡ 0
  pub under : length reader.head ≡ RECORD_HEAD →
      IsLeft (head_item reader.head) (length bytes - reader.begin - RECORD_HEAD) reader.left
  pub decoded : 1 ≤ reader.left → IsDecoded reader.item reader.head

-- the last of the bytes ends a record, which begins at that place (own)
pub record Finds (bytes : List ℕ) (changes : List Change) (item : Record) (at : ℕ) (new : ReaderState)
    : Type 0 where
  pub place : at ≡ length (spell_all changes)
  pub front : IsAtFront item (drop at bytes)
  pub after : IsAfter bytes (changes ++ change_in item (drop at bytes) ∷ []) new

-- a record was found at the end of the bytes, or none (own)
abbrev pub PassesOver : Option Found → List ℕ → List Change → ReaderState → Type 0
PassesOver None bytes changes new = IsAfter bytes changes new
PassesOver (Some found) bytes changes new = Finds bytes changes found.item found.at new

-- how many bytes of a piece with `count` bytes were taken (own)
abbrev pub taken_of : Fed → ℕ → ℕ
taken_of (Feds.Found item at taken) count = taken
taken_of Feds.More count = count
taken_of (Feds.Bad at) count = count

-- the result of a piece after these bytes (own)
abbrev pub Feeds : Fed → List ℕ → List ℕ → List Change → ReaderState → Type 0
Feeds (Feds.Found item at taken) before piece changes new =
    Finds (before ++ take taken piece) changes item at new
Feeds Feds.More before piece changes new = IsAfter (before ++ piece) changes new
Feeds (Feds.Bad at) before piece changes new =
    IsAfter (before ++ piece) changes new × ((more : List ℕ) → IsBadAt ((before ++ piece) ++ more) at)

-- the result at the end of the bytes (own)
abbrev pub Ends : Result Unit RecordError → List ℕ → List Change → Type 0
Ends (Ok done) bytes changes = SpellsAll bytes changes
Ends (Err (BadRecord at)) bytes changes = IsBadAt bytes at
Ends (Err NoMemory) bytes changes = ⊥
