-- What is left to store, and how much a medium that is lent may take.
use Rattle.std.specs.Prelude.{◌+◌, ◌≤◌, ◌<◌, ℕ, List, [], length, sum_by, slice_index_or, Result, Ok, Err}
use Rattle.vtl_base.specs.declared.limits.TheConstants.{BUFFER_BYTES, BUFFER_RECORDS}
use Rattle.volume_core.specs.declared.changes.Change.{Change}
use Rattle.volume_core.specs.declared.media.MediumError.{MediumError}
use Rattle.volume_core.specs.Medium.{block_bytes, frame_size}
use Rattle.cartridge.specs.Contents.{volume_made}
use Rattle.cartridge.specs.State.{OpenCartridge}
use Rattle.tape_buffer.specs.declared.budgets.Budget.{Budget}
use Rattle.tape_buffer.specs.Taking.{longest_body}

-- what is pending once these were to be stored: none of them, or all (own)
abbrev pub left_of : Result Unit MediumError → List Change → List Change
left_of (Ok done) changes = []
left_of (Err error) changes = changes

-- What is pending and what may still be taken keeps the limits of the buffer and the room of the side, and its storing
-- takes no memory, whether it is stored one by one or all at once (own).
pub record IsRoomyFor {D : Type 0} (cartridge : OpenCartridge D) (pending : List Change) (left : Budget) : Type 0 where
  pub few : length pending + left.records ≤ BUFFER_RECORDS
  pub short : sum_by block_bytes pending + left.bytes ≤ BUFFER_BYTES
  pub fits : sum_by frame_size pending + left.room ≤ cartridge.room
  pub frames : left.records ≤ cartridge.reserved.frames
  pub one_more : 1 ≤ length pending → left.records + 1 ≤ cartridge.reserved.frames
  pub body : 1 ≤ left.records → longest_body ≤ cartridge.reserved.body
  pub entries : 1 ≤ left.records → (part : ℕ) → part < length (volume_made cartridge.contents)
      → length pending + left.records ≤ slice_index_or cartridge.reserved.entries part 0
