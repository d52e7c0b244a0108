-- Volumes: partitions of objects, what these take, and what changes make of them.
use Rattle.std.specs.Prelude.{◌≡◌, ◌<◌, ◌≤◌, ℕ, ◌+◌, ◌-◌, ◌/◌, List, [], ◌∷◌, ◌++◌, length, take, map, replicate, sum_by, count_by, All, Option, None, Some, Result, Ok, Err, slice_get, slice_set, nat_lt, nat_le, Bool, true, false, not, IsTrue, ◌&&◌, if◌then◌else◌}
use Rattle.std.specs.List.{list_all}
use Rattle.vtl_base.specs.declared.limits.TheConstants.{MAX_BLOCK, MAX_OBJECTS, MAX_PARTITIONS, OBJECT_COST}
use Rattle.vtl_base.specs.Limits.{is_capacity}
use Rattle.volume_core.specs.declared.objects.Object.{Object}
use Rattle.volume_core.specs.declared.objects.Object.TheVariants.{Block, Mark}
use Rattle.volume_core.specs.declared.objects.Kind.{Kind}
use Rattle.volume_core.specs.declared.objects.Kind.TheVariants as Kinds
use Rattle.volume_core.specs.declared.changes.Change.{Change}
use Rattle.volume_core.specs.declared.changes.Change.TheVariants.{Put, Marks, Erase}
use Rattle.volume_core.specs.declared.changes.Demand.{Demand}
use Rattle.volume_core.specs.declared.changes.Refusal.{Refusal}
use Rattle.volume_core.specs.declared.changes.Refusal.TheVariants.{NoPartition, PastEnd, NoRoom, TooLong}
use Rattle.volume_core.specs.declared.volumes.ApplyError.{ApplyError}
use Rattle.volume_core.specs.declared.volumes.NotApplied.{NotApplied}
use Rattle.volume_core.specs.declared.volumes.ApplyError.TheVariants.{Refused, NoMemory}

-- a partition: how many bytes it takes, and its objects from object 0 on (SSC-4, logical objects)
pub record Part : Type 0 where
  pub capacity : ℕ
  pub objects : List Object

-- what an object takes of the capacity: a block its bytes and 16, a mark 16 (own)
abbrev pub cost_of : Object → ℕ
cost_of (Block bytes) = length bytes + OBJECT_COST
cost_of Mark = OBJECT_COST

-- what objects take together (own)
abbrev pub used_of : List Object → ℕ
used_of objects = sum_by cost_of objects

-- the last sixteenth of a capacity, rounded down, has begun (own, for early warning of SSC-4)
abbrev pub is_in_early_zone : ℕ → ℕ → Bool
is_in_early_zone capacity used = nat_lt (capacity - capacity / 16) used

-- a block has 1 to 1,048,576 bytes (own; SSC-4, READ BLOCK LIMITS)
abbrev pub IsObject : Object → Type 0
IsObject (Block bytes) = (1 ≤ length bytes) × (length bytes ≤ MAX_BLOCK)
IsObject Mark = Unit {0}

-- a partition keeps the limits of capacity and objects, and its objects fit (own)
pub record IsPart (part : Part) : Type 0 where
  pub capacity_fits : IsTrue (is_capacity part.capacity)
  pub few : length part.objects ≤ MAX_OBJECTS
  pub fits : used_of part.objects ≤ part.capacity
  pub well_formed : All IsObject part.objects

-- a volume has 1 to 4 partitions (own)
pub record IsVolume (volume : List Part) : Type 0 where
  pub some : 1 ≤ length volume
  pub few : length volume ≤ MAX_PARTITIONS
  pub each : All IsPart volume

-- 1 to 4 capacities, which a volume can have (own)
abbrev pub are_capacities : List ℕ → Bool
are_capacities capacities =
    nat_le 1 (length capacities) && nat_le (length capacities) MAX_PARTITIONS
    && list_all is_capacity capacities

-- a partition with no object (own)
abbrev pub empty_part : ℕ → Part
empty_part capacity = record { capacity = capacity; objects = [] }

-- the volume of these capacities with no object (own)
abbrev pub empty_volume : List ℕ → List Part
empty_volume capacities = map empty_part capacities

-- the capacity of a partition that may be there; 0 where it is not (own)
abbrev pub capacity_in : Option Part → ℕ
capacity_in None = 0
capacity_in (Some part) = part.capacity

-- its objects; none where it is not there (own)
abbrev pub objects_in : Option Part → List Object
objects_in None = []
objects_in (Some part) = part.objects

-- the capacity of a partition, 0 where there is no such partition (own)
abbrev pub capacity_of : List Part → ℕ → ℕ
capacity_of volume number = capacity_in (slice_get volume number)

-- the objects of a partition, none where there is no such partition (own)
abbrev pub objects_of : List Part → ℕ → List Object
objects_of volume number = objects_in (slice_get volume number)

-- how many objects a partition has (own)
abbrev pub count_of : List Part → ℕ → ℕ
count_of volume number = length (objects_of volume number)

-- what the first n objects of a partition take (own)
abbrev pub used_up_to : List Part → ℕ → ℕ → ℕ
used_up_to volume number n = used_of (take n (objects_of volume number))

-- whether an object is a block or a filemark (SSC-4, logical objects)
abbrev pub kind_of : Object → Kind
kind_of (Block bytes) = Kinds.Block
kind_of Mark = Kinds.Mark

-- the kind of an object that may be there (own)
abbrev pub kind_in : Option Object → Option Kind
kind_in None = None
kind_in (Some object) = Some (kind_of object)

-- the kind of the object with this number; None where there is none (SSC-4, logical objects)
abbrev pub kind_at : List Part → ℕ → ℕ → Option Kind
kind_at volume number at = kind_in (slice_get (objects_of volume number) at)

-- whether an object is a filemark (SSC-4, logical objects)
abbrev pub is_mark : Object → Bool
is_mark Mark = true
is_mark (Block bytes) = false

-- how many filemarks are among objects (own)
abbrev pub marks_in : List Object → ℕ
marks_in objects = count_by is_mark objects

-- how many filemarks a partition has, 0 where there is no such partition (own)
abbrev pub mark_count : List Part → ℕ → ℕ
mark_count volume number = marks_in (objects_of volume number)

-- how many are among its first n objects; all of them where there are fewer objects (own)
abbrev pub marks_upto : List Part → ℕ → ℕ → ℕ
marks_upto volume number n = marks_in (take n (objects_of volume number))

-- the number is that of a partition's filemark number k, counted from 0: a filemark stands there, and k filemarks stand
-- before it (own)
pub record IsMarkOf (volume : List Part) (number k at : ℕ) : Type 0 where
  pub mark : kind_at volume number at ≡ Some Kinds.Mark
  pub before : marks_upto volume number at ≡ k

-- the bytes of an object that may be there, if it is a block (own)
abbrev pub block_in : Option Object → Option (List ℕ)
block_in None = None
block_in (Some Mark) = None
block_in (Some (Block bytes)) = Some bytes

-- the bytes of the block with this object number; None where there is no block (SSC-4, logical objects)
abbrev pub block_at : List Part → ℕ → ℕ → Option (List ℕ)
block_at volume number at = block_in (slice_get (objects_of volume number) at)

-- the partition that a change concerns (own)
abbrev pub part_of : Change → ℕ
part_of (Put part at block) = part
part_of (Marks part at count) = part
part_of (Erase part at) = part

-- how many of its objects stay (own)
abbrev pub staying_of : Change → ℕ
staying_of (Put part at block) = at
staying_of (Marks part at count) = at
staying_of (Erase part at) = at

-- the objects that a change puts behind those that stay (own)
abbrev pub added_by : Change → List Object
added_by (Put part at block) = Block block ∷ []
added_by (Marks part at count) = replicate count Mark
added_by (Erase part at) = []

-- a change that adds objects: a block or marks, and no erase (own)
abbrev pub AddsObjects : Change → Type 0
AddsObjects (Put part at block) = Unit {0}
AddsObjects (Marks part at count) = Unit {0}
AddsObjects (Erase part at) = ⊥

-- the change has a block of more than 24 bytes, which stand in memory of their own (own)
abbrev pub HasLongBlock : Change → Type 0
HasLongBlock (Put part at block) = 24 < length block
HasLongBlock (Marks part at count) = ⊥
HasLongBlock (Erase part at) = ⊥

-- the objects after a change: what stood behind those that stay is gone (SSC-4, WRITE, WRITE FILEMARKS, ERASE)
abbrev pub objects_after : List Object → Change → List Object
objects_after objects change = take (staying_of change) objects ++ added_by change

-- these objects are no more than a partition has, and fit its capacity (own)
abbrev pub has_room : Part → List Object → Bool
has_room part objects =
    nat_le (length objects) MAX_OBJECTS && nat_le (used_of objects) part.capacity

-- the block of a change has 1 to 1,048,576 bytes, and its marks are at least one (own)
abbrev pub is_well_formed : Change → Bool
is_well_formed (Put part at block) = nat_le 1 (length block) && nat_le (length block) MAX_BLOCK
is_well_formed (Marks part at count) = nat_le 1 count
is_well_formed (Erase part at) = true

-- what a change asks of its partition: how many objects it adds, what these take, and whether it is well formed (own)
abbrev pub demand_of : Change → Demand
demand_of change =
    record { objects = length (added_by change); bytes = used_of (added_by change); formed = is_well_formed change }

-- why a partition refuses a change: the first cause of these that holds (own)
abbrev pub refusal_in : Option Part → Change → Option Refusal
refusal_in None change = Some NoPartition
refusal_in (Some part) change =
    if nat_lt (length part.objects) (staying_of change) then Some PastEnd
    else (if not (has_room part (objects_after part.objects change)) then Some NoRoom
    else (if not (is_well_formed change) then Some TooLong
    else None))

-- why a volume refuses a change; None is that it refuses nothing (own)
abbrev pub refusal_of : List Part → Change → Option Refusal
refusal_of volume change = refusal_in (slice_get volume (part_of change)) change

-- a partition after a change (own)
abbrev pub part_after : Part → Change → Part
part_after part change =
    record { capacity = part.capacity; objects = objects_after part.objects change }

-- a volume after a change of this partition of it; without that partition, as it was (own)
abbrev pub changed_in : Option Part → List Part → Change → List Part
changed_in None volume change = volume
changed_in (Some part) volume change = slice_set volume (part_of change) (part_after part change)

-- a volume after a change that it does not refuse (own)
abbrev pub changed : List Part → Change → List Part
changed volume change = changed_in (slice_get volume (part_of change)) volume change

-- the changes carried out in order (own)
abbrev pub after : List Part → List Change → List Part
after volume [] = volume
after volume (change ∷ changes) = after (changed volume change) changes

-- each of these changes applies to what the ones before it made (own)
abbrev pub AllApply : List Part → List Change → Type 0
AllApply volume [] = Unit {0}
AllApply volume (change ∷ changes) =
    (refusal_of volume change ≡ None) × AllApply (changed volume change) changes

-- The answer to a change that is refused for the first of these causes, or else leads from old to
-- changed. After a refusal nothing has changed; whether memory runs out is decided last (own).
abbrev pub AppliesUnless : {V : Type 0} → Option Refusal → V → V → Result Unit ApplyError → V → Type 0
AppliesUnless refusal old changed (Ok done) new = (refusal ≡ None) × (new ≡ changed)
AppliesUnless refusal old changed (Err (Refused cause)) new = (refusal ≡ Some cause) × (new ≡ old)
AppliesUnless refusal old changed (Err NoMemory) new = (refusal ≡ None) × (new ≡ old)

-- the result of `apply`, without the change that is returned (own)
abbrev pub apply_answer : Result Unit NotApplied → Result Unit ApplyError
apply_answer (Ok done) = Ok done
apply_answer (Err refused) = Err refused.error

-- the result of asking a volume to carry out a change (own)
abbrev pub Applies : List Part → Change → Result Unit ApplyError → List Part → Type 0
Applies old change result new = AppliesUnless (refusal_of old change) old (changed old change) result new
