-- A volume changes where one of its partitions does.
use Rattle.std.proofs.Common.{◌≡◌, ◌<◌, ℕ, List, Option, None, Some, slice_get, slice_set, length, refl}
use Rattle.std.proofs.lemmas.List.{set-get_or}
use Rattle.std.proofs.lemmas.Option.{get_or_from_slice_get, slice_get_within}
use Rattle.volume_core.specs.declared.changes.Change.{Change}
use Rattle.volume_core.specs.Volume.{Part, changed, part_of, refusal_in, refusal_of, part_after}

there : (found : Option Part) (change : Change) → refusal_in found change ≡ None → (part : Part) × (found ≡ Some part)
there None change none = absurd (cc)
there (Some part) change none = (part, refl)

-- a change that is not refused is one of a partition that is there
pub inside_of : (volume : List Part) (change : Change) → refusal_of volume change ≡ None
    → part_of change < length volume
inside_of volume change none =
    let found = there (slice_get volume (part_of change)) change none in
    slice_get_within volume (part_of change) found.0 found.1

-- a partition that stays leaves the volume as it is
pub set_same : (volume : List Part) (number : ℕ) (old new : Part)
    → slice_get volume number ≡ Some old → new ≡ old → slice_set volume number new ≡ volume
set_same volume number old new at same =
    rw same (rw (get_or_from_slice_get volume number old old at) at (set-get_or volume number old))

-- where its partition is changed, the volume is
pub changed_at : (volume : List Part) (change : Change) (old new : Part) → slice_get volume (part_of change) ≡ Some old
    → new ≡ part_after old change → slice_set volume (part_of change) new ≡ changed volume change
changed_at volume change old new at is = rw (at, is) refl
