-- Where a motion over the objects of a partition ends. A place is the number of an object, or the end of data, which is
-- the number after the last.
use Rattle.std.specs.Prelude.{◌≡◌, ◌≤◌, ◌<◌, ◌+◌, ◌-◌, ℕ, ℤ, pos, negsuc, suc, zero, List, length, count_by, slice_get, slice_range, Some}
use Rattle.volume_core.specs.declared.objects.Object.{Object}
use Rattle.volume_core.specs.declared.objects.Kind.TheVariants as Kinds
use Rattle.volume_core.specs.Volume.{Part, count_of, is_mark, kind_in}
use Rattle.positioning.specs.declared.positions.Pos.{Pos}
use Rattle.vtl_base.specs.declared.space_codes.SpaceCode.{SpaceCode}
use Rattle.vtl_base.specs.declared.space_codes.SpaceCode.TheVariants.{Blocks, Filemarks, EndOfData}
use Rattle.positioning.specs.declared.positions.Stop.{Stop}
use Rattle.positioning.specs.declared.positions.Stop.TheVariants.{Done, AtMark, AtEnd, AtStart}

-- the volume has the partition, and the position is before one of its objects or at the end of data (SSC-4, logical
-- position)
pub record IsOnTape (volume : List Part) (position : Pos) : Type 0 where
  pub part : position.part < length volume
  pub object : position.obj ≤ count_of volume position.part

-- there is a block at a place (SSC-4, logical objects)
abbrev pub IsBlockAt : List Object → ℕ → Type 0
IsBlockAt objects at = kind_in (slice_get objects at) ≡ Some Kinds.Block

-- there is a filemark at a place (SSC-4, logical objects)
abbrev pub IsMarkAt : List Object → ℕ → Type 0
IsMarkAt objects at = kind_in (slice_get objects at) ≡ Some Kinds.Mark

-- the objects from one place up to another exist and are blocks (own)
abbrev pub AreBlocks : List Object → ℕ → ℕ → Type 0
AreBlocks objects from to = (at : ℕ) → from ≤ at → at < to → IsBlockAt objects at

-- how many filemarks lie from one place up to another (own)
abbrev pub marks_between : List Object → ℕ → ℕ → ℕ
marks_between objects from to = count_by is_mark (slice_range objects from to)

-- the greatest of the numbers up to a bound that have a property (own)
pub record IsGreatest (bound : ℕ) (Has : ℕ → Type 0) (number : ℕ) : Type 0 where
  pub within : number ≤ bound
  pub has : Has number
  pub greatest : (other : ℕ) → other ≤ bound → Has other → other ≤ number

-- this many objects from a place on exist and are blocks (own)
abbrev pub AreBlocksFrom : List Object → ℕ → ℕ → Type 0
AreBlocksFrom objects from number = AreBlocks objects from (from + number)

-- this many objects before a place exist and are blocks (own)
abbrev pub AreBlocksBefore : List Object → ℕ → ℕ → Type 0
AreBlocksBefore objects from number = (number ≤ from) × AreBlocks objects (from - number) from

-- the end of a motion forward over blocks that passed this many: all are passed; or there is no further object; or the
-- next one is a filemark, and the motion ends after it (SSC-4, SPACE(6))
abbrev pub EndsForward : List Object → ℕ → ℕ → ℕ → ℕ → Stop → ℕ → Type 0
EndsForward objects from count passed end Done left =
    (passed ≡ count) × (end ≡ from + count) × (left ≡ 0)
EndsForward objects from count passed end AtEnd left =
    (passed < count) × (from + passed ≡ length objects) × (end ≡ length objects)
    × (left ≡ count - passed)
EndsForward objects from count passed end AtMark left =
    (passed < count) × IsMarkAt objects (from + passed) × (end ≡ from + passed + 1)
    × (left ≡ count - passed)
EndsForward objects from count passed end AtStart left = ⊥

-- the end of a motion backward over blocks that passed this many: all are passed; or there is no object before; or the
-- one before is a filemark, and the motion ends before it (SSC-4, SPACE(6))
abbrev pub EndsBackward : List Object → ℕ → ℕ → ℕ → ℕ → Stop → ℕ → Type 0
EndsBackward objects from count passed end Done left =
    (passed ≡ count) × (end + count ≡ from) × (left ≡ 0)
EndsBackward objects from count passed end AtStart left =
    (passed < count) × (passed ≡ from) × (end ≡ 0) × (left ≡ count - passed)
EndsBackward objects from count passed end AtMark left =
    (passed < count) × IsMarkAt objects end × (end + passed + 1 ≡ from) × (left ≡ count - passed)
EndsBackward objects from count passed end AtEnd left = ⊥

-- a place is directly after a filemark (own)
abbrev pub IsBehindMark : List Object → ℕ → Type 0
IsBehindMark objects at = (mark : ℕ) × (at ≡ mark + 1) × IsMarkAt objects mark

-- the end of a motion forward over filemarks: directly after one, with as many between as the count; or at the end of
-- data, with fewer (SSC-4, SPACE(6))
abbrev pub ForwardOverMarks : List Object → ℕ → ℕ → ℕ → Stop → ℕ → Type 0
ForwardOverMarks objects from count end Done left =
    IsBehindMark objects end × (marks_between objects from end ≡ count) × (left ≡ 0)
ForwardOverMarks objects from count end AtEnd left =
    (end ≡ length objects) × (marks_between objects from end + left ≡ count) × (1 ≤ left)
ForwardOverMarks objects from count end AtMark left = ⊥
ForwardOverMarks objects from count end AtStart left = ⊥

-- the end of a motion backward over filemarks: directly before one, with as many between as the count; or at the
-- beginning of the partition, with fewer (SSC-4, SPACE(6))
abbrev pub BackwardOverMarks : List Object → ℕ → ℕ → ℕ → Stop → ℕ → Type 0
BackwardOverMarks objects from count end Done left =
    IsMarkAt objects end × (marks_between objects end from ≡ count) × (left ≡ 0)
BackwardOverMarks objects from count end AtStart left =
    (end ≡ 0) × (marks_between objects end from + left ≡ count) × (1 ≤ left)
BackwardOverMarks objects from count end AtMark left = ⊥
BackwardOverMarks objects from count end AtEnd left = ⊥

-- forward over blocks a motion passes the greatest number of objects, up to the count, that follow the place, exist and
-- are blocks (SSC-4, SPACE(6))
abbrev pub ForwardOverBlocks : List Object → ℕ → ℕ → ℕ → Stop → ℕ → Type 0
ForwardOverBlocks objects from count end stop left =
    (passed : ℕ) × IsGreatest count (AreBlocksFrom objects from) passed
    × EndsForward objects from count passed end stop left

-- backward over blocks a motion passes the greatest number of objects, up to the count, that precede the place, exist
-- and are blocks (SSC-4, SPACE(6))
abbrev pub BackwardOverBlocks : List Object → ℕ → ℕ → ℕ → Stop → ℕ → Type 0
BackwardOverBlocks objects from count end stop left =
    (passed : ℕ) × IsGreatest count (AreBlocksBefore objects from) passed
    × EndsBackward objects from count passed end stop left

-- a motion ends at this place, and was completed (own)
abbrev pub Reaches : ℕ → ℕ → Stop → ℕ → Type 0
Reaches place end stop left = (end ≡ place) × (stop ≡ Done) × (left ≡ 0)

-- SPACE from a place, with this code and count, ends at this place, for this cause, with this much of the count left; a
-- count below 0 goes backward, and code 3 has none (SSC-4, SPACE(6))
abbrev pub SpacesTo : List Object → ℕ → SpaceCode → ℤ → ℕ → Stop → ℕ → Type 0
SpacesTo objects from EndOfData count end stop left = Reaches (length objects) end stop left
SpacesTo objects from Blocks (pos zero) end stop left = Reaches from end stop left
SpacesTo objects from Blocks (pos (suc n)) end stop left =
    ForwardOverBlocks objects from (n + 1) end stop left
SpacesTo objects from Blocks (negsuc n) end stop left =
    BackwardOverBlocks objects from (n + 1) end stop left
SpacesTo objects from Filemarks (pos zero) end stop left = Reaches from end stop left
SpacesTo objects from Filemarks (pos (suc n)) end stop left =
    ForwardOverMarks objects from (n + 1) end stop left
SpacesTo objects from Filemarks (negsuc n) end stop left =
    BackwardOverMarks objects from (n + 1) end stop left

-- LOCATE to an object ends before it, or at the end of data where there are fewer objects; none is left (SSC-4,
-- LOCATE(10))
abbrev pub LocatesTo : List Object → ℕ → ℕ → Stop → ℕ → Type 0
LocatesTo objects to end Done left = (to ≤ length objects) × (end ≡ to) × (left ≡ 0)
LocatesTo objects to end AtEnd left =
    (length objects < to) × (end ≡ length objects) × (left ≡ 0)
LocatesTo objects to end AtMark left = ⊥
LocatesTo objects to end AtStart left = ⊥
