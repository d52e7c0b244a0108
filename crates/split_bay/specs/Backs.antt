-- What contracts see of the disk's half of a bay, and what its calls do.
use Rattle.std.specs.Prelude.{◌≡◌, ◌≤◌, ◌+◌, ◌++◌, ℕ, List, [], length, map, sum_by, Bool, true, false, not, ◌&&◌, Option, None, Some, is_some, option_map}
use mathlib.Core.List.{IsPrefix}
use Rattle.vtl_base.specs.Below.{Advances}
use Rattle.tape_disk.specs.Disk.{DiskState}
use Rattle.volume_core.specs.declared.changes.Change.{Change}
use Rattle.volume_core.specs.declared.media.Turn.{Turn}
use Rattle.volume_core.specs.declared.media.Turn.TheVariants.{Idle}
use Rattle.volume_core.specs.Medium.{Turns, block_bytes, frame_size, turn_met_fault}
use Rattle.volume_core.specs.Stores.{Stores}
use Rattle.tape_buffer.specs.declared.budgets.Budget.{Budget}
use Rattle.tape_buffer.specs.Frames.{IsOneFrameIn, frames_in}
use Rattle.tape_buffer.specs.Moves.{StoresBehind, buffer_below, with_changes}
use Rattle.tape_buffer.specs.State.{BufferState, state_of}
use Rattle.tape_buffer.specs.Taking.{DisksState}
use Rattle.bay_moves.specs.Bays.{KeepsCartridgeIn}
use Rattle.split_bay.specs.declared.items.Item.{Item}
use Rattle.split_bay.specs.declared.items.Item.TheVariants.{Sent}
use Rattle.split_bay.specs.Looks.{Looked, is_broken}
use Rattle.split_bay.specs.Rings.{ReceivingState}
use Rattle.split_bay.specs.Spans.{KeepsLimits, NoChangeFirst, Span, medium_begun, medium_seen, span_of}

-- The disk's half of a bay: its drive's number, all items that it ever received, those that are known to wait, and the
-- medium that is in the drive, if one is (own).
pub record BackState (D : Type 0) : Type 0 where
  pub number : ℕ
  pub received : List Item
  pub waiting : List Item
  pub medium : Option (DisksState D)

-- the disk's half that is this end of the ring with these disks (own)
abbrev pub disks_half : {D : Type 0} → ReceivingState → Option (DisksState D) → BackState D
disks_half receiving disks = record {
  number = receiving.number;
  received = receiving.received;
  waiting = receiving.waiting;
  medium = disks;
}

-- what may still be sent in a span is no more than this (own)
pub record LeavesBudget (span : Span) (budget : Budget) : Type 0 where
  pub records : span.begin.left ≤ budget.records + length span.since
  pub bytes : span.begin.bytes ≤ budget.bytes + sum_by block_bytes span.since
  pub room : span.begin.room ≤ budget.room + sum_by frame_size span.since

module _ {D : Type 0} (state : D → DiskState) where
  -- The medium of the disk's half stands as the span says: it is as hosts see it, as far as it was stored; it takes
  -- what may still be sent; and to one that is not awake nothing is sent (own).
  pub record FollowsSpan (medium : DisksState D) (span : Span) : Type 0 where
    pub there : is_some span.begin.seen ≡ true
    pub looked : Looked (medium_seen span) (state_of state medium.buffer)
    pub left : LeavesBudget span medium.left
    pub rests : (medium_begun span).awake ≡ false → span.begin.left ≡ 0

  -- the same of the medium that is in the drive, if one is; else the span began with none (own)
  abbrev pub FollowsIn : Option (DisksState D) → Span → Type 0
  FollowsIn None span = span.begin.seen ≡ None
  FollowsIn (Some medium) span = FollowsSpan medium span

  -- The invariant of a disk's half: what holds of its cartridge over honest disks (`KeepsCartridgeIn`); the medium is
  -- as hosts see it, as far as its changes were received and stored; no more was received than the span allows (own).
  pub record KeepsDiskHalf (back : BackState D) : Type 0 where
    pub cartridge : KeepsCartridgeIn state (option_map (λ m. m.buffer) back.medium)
    pub follows : FollowsIn back.medium (span_of back.received)
    pub within : KeepsLimits (span_of back.received)

  -- a medium is there, awake, and its device has not failed (own)
  abbrev pub works_in : Option (DisksState D) → Bool
  works_in None = false
  works_in (Some medium) = (state_of state medium.buffer).awake && not (state_of state medium.buffer).failed

  -- a medium is there, awake, and its device has failed (own)
  abbrev pub is_stuck_in : Option (DisksState D) → Bool
  is_stuck_in None = false
  is_stuck_in (Some medium) = is_broken (state_of state medium.buffer)

  -- What is pending in a medium, with these changes behind it, is stored as one frame, or nothing is pending; or the
  -- device failed while it was. Exactly these changes are accepted; the medium's relation says what is left at each
  -- moment, also with whatever hosts accept meanwhile, behind what was found (own).
  pub record StoresFound (old : BufferState D) (found : List Change) (turn : Turn) (new : BufferState D) : Type 0 where
    pub answer : Turns (state_of state (with_changes old found)) turn (state_of state new)
    pub frame :
        IsOneFrameIn turn (frames_in (with_changes old found)) (with_changes old found).pending (frames_in new)
    pub stores : Stores (state_of state (with_changes old found)) [] (state_of state new)
    pub advances : Advances (buffer_below state) old found (turn_met_fault turn) new
    pub behind : StoresBehind state (with_changes old found) new

  -- the same of a medium that is in the drive (own)
  abbrev pub StoresFoundIn : Option (DisksState D) → List Change → Turn → Option (DisksState D) → Type 0
  StoresFoundIn (Some old) found turn (Some new) = StoresFound old.buffer found turn new.buffer
  StoresFoundIn _ found turn _ = ⊥

  -- The changes that are known to wait, up to where the next span begins, are received, and stored behind what was
  -- pending (own).
  pub record StoresKnown (old : BackState D) (turn : Turn) (new : BackState D) : Type 0 where
    pub found : List Change
    pub number : new.number ≡ old.number
    pub received : new.received ≡ old.received ++ map Sent found
    pub waiting : old.waiting ≡ map Sent found ++ new.waiting
    pub all : NoChangeFirst new.waiting
    pub stores : StoresFoundIn old.medium found turn new.medium

  -- A flusher's turn over the disk's half alone. The changes that it finds in the ring, up to where the next span
  -- begins, are received and stored. A half with no medium that is awake does nothing, nor one that is stuck, since its
  -- device has failed (own).
  abbrev pub TurnsBack : Bool → BackState D → Turn → BackState D → Type 0
  TurnsBack false old turn new = (turn ≡ Idle) × (new ≡ old)
  TurnsBack true old turn new =
      (waiting : List Item) × IsPrefix old.waiting waiting
      × StoresKnown (record old { waiting = waiting }) turn new
