-- The state of a reader of records with sums after the first bytes of a body, however these were cut.
use Rattle.std.specs.Prelude.{◌≡◌, ◌≤◌, ◌<◌, ◌+◌, ◌-◌, ℕ, List, [], ◌∷◌, ◌++◌, length, take, drop, Option, None, Some, Result, Ok, Err, if◌then◌else◌, nat_lt}
use Rattle.std.specs.List.{All}
use Rattle.vtl_base.specs.declared.layout.TheConstants.{SEALED_HEAD}
use Rattle.change_records.specs.declared.records.Record.{Record}
use Rattle.change_records.specs.Records.{record_length}
use Rattle.sealed_records.specs.declared.reader.Found.{Found}
use Rattle.sealed_records.specs.declared.reader.Fed.{Fed}
use Rattle.sealed_records.specs.declared.reader.Fed.TheVariants as Feds
use Rattle.sealed_records.specs.declared.reader.SealedError.{SealedError}
use Rattle.sealed_records.specs.declared.reader.SealedError.TheVariants.{BadRecord, BadSum}
use Rattle.sealed_records.specs.Sealed.{IsLaid, IsSealedFront, IsUnsealedAt, IsUnsummed, SpellsLaids, laid_in, Laid, is_summed, sealed_item, spell_laids, sum_in}

-- A reader: the seed of the frame, the place of the body in the file; the bytes so far of the present record's head,
-- what they give, how many bytes of its block are still to come; where in the body it begins, and how many bytes of the
-- body came (own).
pub record SealedState : Type 0 where
  pub seed : ℕ
  pub place : ℕ
  pub head : List ℕ
  pub item : Record
  pub left : ℕ
  pub begin : ℕ
  pub at : ℕ

-- whatever follows, the record stands there, if enough bytes for its block follow (own)
abbrev pub IsSealedHeadOf : ℕ → ℕ → Record → List ℕ → Type 0
IsSealedHeadOf seed place item head =
    (tail : List ℕ) → record_length item ≤ length tail → IsSealedFront seed place item (head ++ tail)

-- The bytes begin with these records, up to `begin`; the head is the first eighteen bytes from there, as far as they
-- came (own).
pub record StandsSealed (seed place : ℕ) (bytes : List ℕ) (laids : List Laid) (begin at : ℕ) (head : List ℕ)
    : Type 0 where
  pub spelled : All IsLaid laids
  pub begins : bytes ≡ spell_laids seed place laids ++ drop begin bytes
  pub begin_is : begin ≡ length (spell_laids seed place laids)
  pub within : begin ≤ length bytes
  pub at_is : at ≡ length bytes
  pub head_is : head ≡ take SEALED_HEAD (drop begin bytes)

-- of the block of this record `there` bytes came, and `left` are still to come, at least one; 0 without a record (own)
abbrev pub IsLeftOf : Option Record → ℕ → ℕ → Type 0
IsLeftOf None there left = left ≡ 0
IsLeftOf (Some item) there left = (1 ≤ left) × (there + left ≡ record_length item)

-- the head at that place gives the record, which stands there wherever enough bytes follow (own)
pub record IsSealedDecoded (seed place : ℕ) (item : Record) (head : List ℕ) : Type 0 where
  pub item_is : sealed_item seed place head ≡ Some item
  pub front : IsSealedHeadOf seed place item head

-- The bytes are these records, followed by less than a record, or by bytes that begin with no record however they go
-- on. The reader has what it must know of them (own).
pub record IsAfterSealed (bytes : List ℕ) (laids : List Laid) (reader : SealedState) : Type 0 where
  pub stands : StandsSealed reader.seed reader.place bytes laids reader.begin reader.at reader.head
  pub starts : length reader.head < SEALED_HEAD → reader.left ≡ 0
  pub under : length reader.head ≡ SEALED_HEAD →
      IsLeftOf (sealed_item reader.seed (reader.place + reader.begin) reader.head)
      (length bytes - reader.begin - SEALED_HEAD) reader.left
  pub decoded : 1 ≤ reader.left → IsSealedDecoded reader.seed (reader.place + reader.begin) reader.item reader.head

-- the last of the bytes ends a record, which begins at that place of the body, and whose head gives that sum (own)
pub record FindsSealed (bytes : List ℕ) (laids : List Laid) (item : Record) (sum at : ℕ) (new : SealedState)
    : Type 0 where
  pub begin_is : at ≡ length (spell_laids new.seed new.place laids)
  pub sum_is : sum ≡ sum_in (drop at bytes)
  pub front : IsSealedFront new.seed (new.place + at) item (drop at bytes)
  pub after : IsAfterSealed bytes (laids ++ laid_in item (drop at bytes) ∷ []) new

-- a record was found at the end of the bytes, or none (own)
abbrev pub PassesSealed : Option Found → List ℕ → List Laid → SealedState → Type 0
PassesSealed None bytes laids new = IsAfterSealed bytes laids new
PassesSealed (Some found) bytes laids new = FindsSealed bytes laids found.item found.sum found.at new

-- how many bytes of a piece with `count` bytes were taken (own)
abbrev pub taken_by : Fed → ℕ → ℕ
taken_by (Feds.Found item sum at taken) count = taken
taken_by (Feds.More taken) count = taken
taken_by (Feds.Bad error) count = count

-- No record begins there: a head that does not sum is named so, and nothing else is (own).
abbrev pub Refuses : SealedError → ℕ → ℕ → List ℕ → Type 0
Refuses (BadRecord at) seed place bytes =
    IsUnsealedAt seed place bytes at × (IsUnsummed seed (place + at) (drop at bytes) → ⊥)
Refuses (BadSum at) seed place bytes =
    IsUnsealedAt seed place bytes at × IsUnsummed seed (place + at) (drop at bytes)

-- the error for the first bytes of a head at that place, which is `at` of the body (own)
abbrev pub refusal_at : ℕ → ℕ → List ℕ → ℕ → SealedError
refusal_at seed place head at =
    if nat_lt (length head) SEALED_HEAD then BadRecord at
    else (if is_summed seed place head then BadRecord at else BadSum at)

-- the result of a piece after these bytes (own)
abbrev pub FeedsSealed : Fed → List ℕ → List ℕ → List Laid → SealedState → Type 0
FeedsSealed (Feds.Found item sum at taken) before piece laids new =
    FindsSealed (before ++ take taken piece) laids item sum at new
FeedsSealed (Feds.More taken) before piece laids new = IsAfterSealed (before ++ take taken piece) laids new
FeedsSealed (Feds.Bad error) before piece laids new =
    IsAfterSealed (before ++ piece) laids new
    × ((more : List ℕ) → Refuses error new.seed new.place ((before ++ piece) ++ more))

-- the result at the end of the bytes (own)
abbrev pub EndsSealed : Result Unit SealedError → List ℕ → List Laid → SealedState → Type 0
EndsSealed (Ok done) bytes laids reader = SpellsLaids reader.seed reader.place bytes laids
EndsSealed (Err error) bytes laids reader = Refuses error reader.seed reader.place bytes
