-- What contracts see of the hosts' half of a bay: a drive whose disks are away, and the end of the ring.
use Rattle.std.specs.Prelude.{◌≡◌, ◌+◌, ◌++◌, ℕ, List, [], length, map, sum_by, Bool, true, false, Option, None, Some, is_some}
use Rattle.tape_disk.specs.Disk.{DiskState, Each}
use Rattle.tape_disk.specs.Moments.{LeavesOnly}
use Rattle.scsi_sense.specs.declared.replies.Reply.{Reply}
use Rattle.volume_core.specs.declared.changes.Change.{Change}
use Rattle.volume_core.specs.Medium.{block_bytes, frame_size}
use Rattle.volume_core.specs.Volume.{AllApply}
use Rattle.drive_commands.specs.declared.bays.Bay.{Bay}
use Rattle.drive_commands.specs.declared.bays.Bay.TheVariants.{Empty, Unloaded, Loaded}
use Rattle.drive_commands.specs.Alone.{AnswersAlone}
use Rattle.drive_commands.specs.Events.{Execute}
use Rattle.drive_commands.specs.State.{IsBayPositioned, bay_of}
use Rattle.drive_commands.specs.Work.{Request}
use Rattle.aptpl_store.specs.Kept.{store_below, store_kept}
use Rattle.tape_buffer.specs.declared.budgets.Budget.{Budget}
use Rattle.tape_buffer.specs.declared.aways.Away.{Away}
use Rattle.tape_buffer.specs.declared.holding.Holding.{Holding}
use Rattle.tape_buffer.specs.declared.holding.Holding.TheVariants as Holdings
use Rattle.tape_buffer.specs.Aways.{loose_in, seen_as}
use Rattle.tape_buffer.specs.Detaching.{has_loose_held, lacks_room_held, loose_of, passed}
use Rattle.tape_buffer.specs.Moves.{IsAway, takes_alone_in, buffer_below}
use Rattle.tape_buffer.specs.State.{BufferState, state_of}
use Rattle.bay_moves.specs.Elements.{BayState}
use Rattle.bay_moves.specs.Reservations.{GivesHeld, IsHolding, LeavesHeld, disk_of}
use Rattle.split_bay.specs.declared.items.Item.TheVariants.{Sent}
use Rattle.split_bay.specs.Rings.{SendingState}
use Rattle.split_bay.specs.Spans.{KeepsLimits, Span, medium_begun, medium_seen, no_span, span_of, volume_seen}

-- the hosts' half of a bay: the drive, and its end of the ring (own)
pub record FrontState (D : Type 0) : Type 0 where
  pub drive : BayState D
  pub sending : SendingState

-- the hosts' half that is this drive with this end of the ring (own)
abbrev pub hosts_half : {D : Type 0} → BayState D → SendingState → FrontState D
hosts_half drive sending = record { drive = drive; sending = sending }

-- what may be accepted is what may be sent (own)
pub record LeftIn (left : Budget) (span : Span) : Type 0 where
  pub records : left.records + length span.since ≡ span.begin.left
  pub bytes : left.bytes + sum_by block_bytes span.since ≡ span.begin.bytes
  pub room : left.room + sum_by frame_size span.since ≡ span.begin.room

-- a span in which these changes were sent too (own)
abbrev pub span_since : Span → List Change → Span
span_since span changes = record { begin = span.begin; since = span.since ++ changes }

-- the end of a ring into which these changes were sent too (own)
abbrev pub sending_with : SendingState → List Change → SendingState
sending_with sending changes = record sending { sent = sending.sent ++ map Sent changes }

-- A medium whose disks are away stands for the span, once what it accepted is passed on. To one that is not awake
-- nothing is sent, and nothing is pending (own).
pub record OwesAway (away : Away) (span : Span) : Type 0 where
  pub there : is_some span.begin.seen ≡ true
  pub rests : (medium_begun span).awake ≡ false → (span.begin.left ≡ 0) × ((medium_begun span).pending ≡ [])
  pub apply : AllApply (volume_seen span) (loose_in away.loose)
  pub seen : seen_as away.noted ≡ medium_seen (span_since span (loose_in away.loose))
  pub left : LeftIn away.left (span_since span (loose_in away.loose))

-- the same of what a medium holds: its disks are away (own)
abbrev pub OwesHeld : {C S : Type 0} → Holding C S → Span → Type 0
OwesHeld (Holdings.Open cartridge) span = ⊥
OwesHeld (Holdings.Closed cartridge) span = ⊥
OwesHeld (Holdings.Away away) span = OwesAway away span

module _ {D : Type 0} where
  -- the same of what is in a drive; one that is empty sends nothing (own)
  abbrev pub OwesIn : Bay (BufferState D) → Span → Type 0
  OwesIn Empty span = span ≡ no_span
  OwesIn (Unloaded medium) span = OwesHeld medium.held span
  OwesIn (Loaded medium) span = OwesHeld medium.held span

  -- the disks of what is in a drive are away (own)
  abbrev pub AreAway : Bay (BufferState D) → Type 0
  AreAway Empty = Unit {0}
  AreAway (Unloaded medium) = IsAway medium.held
  AreAway (Loaded medium) = IsAway medium.held

  -- what the medium in a drive accepted and did not pass on (own)
  abbrev pub loose_in_bay : Bay (BufferState D) → List Change
  loose_in_bay Empty = []
  loose_in_bay (Unloaded medium) = loose_of medium
  loose_in_bay (Loaded medium) = loose_of medium

  -- what is in a drive stands for the span: hosts see just what was sent (own)
  abbrev pub IsFrontOf : Bay (BufferState D) → Span → Type 0
  IsFrontOf bay span = OwesIn bay span × (loose_in_bay bay ≡ [])

  -- what is in a drive works, and yet accepts no change until its disks are back (own)
  abbrev pub lacks_room_in : Option (BufferState D) → Bool
  lacks_room_in None = false
  lacks_room_in (Some medium) = lacks_room_held medium.held

  -- whether the medium in a drive accepted a change that it did not pass on (own)
  abbrev pub has_loose_in : Option (BufferState D) → Bool
  has_loose_in None = false
  has_loose_in (Some medium) = has_loose_held medium.held

  -- a drive whose medium has passed on what it accepted (own)
  abbrev pub passed_on : BayState D → BayState D
  passed_on drive = record drive { bay = bay_of passed drive.bay }

module _ {D : Type 0} (state : D → DiskState) where
  -- how many changes are pending of a medium, as hosts see it; without a medium none (own)
  abbrev pub pending_of : Option (BufferState D) → ℕ
  pending_of None = 0
  pending_of (Some medium) = length (state_of state medium).pending

  -- what the type of a hosts' half keeps of the reservations and their store (own)
  abbrev pub KeepsOrders : BayState D → Type 0
  KeepsOrders drive = IsHolding (state_of state) (buffer_below state) state drive

  -- over an honest disk each image that a crash now may leave of the store opens as what a loss of power leaves of the
  -- reservations, or of the state whose save failed (own)
  abbrev pub GivesOrders : BayState D → Type 0
  GivesOrders drive =
      (disk_of (state_of state) (buffer_below state) state drive).honest
      → Each (disk_of (state_of state) (buffer_below state) state drive)
      (GivesHeld (state_of state) (buffer_below state) state drive)

  -- At each moment of a request that was answered, an image of the store's disk opens as what a loss of power leaves of
  -- the reservations before, or of a state that may stand in their place; where there was no answer nothing was done
  -- (own).
  abbrev pub LeavesOrders : BayState D → Request → Option Reply → BayState D → Type 0
  LeavesOrders old request None new = new ≡ old
  LeavesOrders old request (Some reply) new =
      (disk_of (state_of state) (buffer_below state) state old).honest
      → (disk_of (state_of state) (buffer_below state) state new).honest
      × LeavesOnly (disk_of (state_of state) (buffer_below state) state old)
      (disk_of (state_of state) (buffer_below state) state new)
      (LeavesHeld (state_of state) (buffer_below state) state old (Execute request) new)

  -- What the type of a hosts' half keeps: of the reservations and their store; its end of the ring, into which no more
  -- was sent than its span allows; and the position is on what hosts see (own).
  pub record KeepsHostsHalf (front : FrontState D) : Type 0 where
    pub orders : KeepsOrders front.drive
    pub stands : IsFrontOf front.drive.bay (span_of front.sending.sent)
    pub within : KeepsLimits (span_of front.sending.sent)
    pub positioned : IsBayPositioned (state_of state) front.drive.bay front.drive.position

  -- A host is answered as by a drive whose disks are away; the change that it accepted, if any, goes into the ring
  -- (own).
  pub record AnswersHalf
      (old : FrontState D) (request : Request) (reply : Reply) (new : FrontState D) (left : List ℕ) : Type 0 where
    pub answered : BayState D
    pub step :
        AnswersAlone (state_of state) store_kept takes_alone_in (buffer_below state) (store_below state) old.drive
        request (Some reply) answered left
    pub made : loose_in_bay answered.bay ≡ step.1.step.taken.made.changes
    pub drive : new.drive ≡ passed_on answered
    pub sending : new.sending ≡ sending_with old.sending (loose_in_bay answered.bay)

  -- the same; or both halves are needed, and nothing has changed (own)
  abbrev pub AnswersOrWaits : FrontState D → Request → Option Reply → FrontState D → List ℕ → Type 0
  AnswersOrWaits old request (Some reply) new left = AnswersHalf old request reply new left
  AnswersOrWaits old request None new left =
      AnswersAlone (state_of state) store_kept takes_alone_in (buffer_below state) (store_below state) old.drive request
      None old.drive left
      × (new ≡ old)
