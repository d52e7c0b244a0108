-- How much may be pending.
use Rattle.std.specs.Prelude.{◌≡◌, ◌≤◌, ◌+◌, List, length, sum_by, refl}
use Rattle.vtl_base.specs.declared.limits.TheConstants.{BUFFER_BYTES, BUFFER_RECORDS}
use Rattle.volume_core.specs.declared.changes.Change.{Change}
use Rattle.volume_core.specs.declared.changes.Change.TheVariants.{Put, Marks, Erase}
use Rattle.volume_core.specs.Medium.{block_bytes, frame_size}

-- these changes may be pending together: at most 256, with at most 4,194,304 bytes of blocks (own)
pub record FitsBuffer (changes : List Change) : Type 0 where
  pub few : length changes ≤ BUFFER_RECORDS
  pub short : sum_by block_bytes changes ≤ BUFFER_BYTES

-- a frame has 15 bytes and its block's
pub frame_of : (change : Change) → frame_size change ≡ 15 + block_bytes change
frame_of (Put part at block) = refl
frame_of (Marks part at count) = refl
frame_of (Erase part at) = refl
