-- The state of a medium, and how a medium answers.
use Rattle.std.specs.Prelude.{◌≡◌, ◌⊎◌, ◌<◌, ◌≤◌, ◌+◌, ◌++◌, ℕ, Option, None, Some, Result, Ok, Err, List, [], ◌∷◌, length, sum_by, Bool, true, false}
use Rattle.vtl_base.specs.declared.layout.TheConstants.{FRAMED_HEAD}
use Rattle.volume_core.specs.declared.changes.Change.{Change}
use Rattle.volume_core.specs.declared.changes.Change.TheVariants.{Put, Marks, Erase}
use Rattle.volume_core.specs.declared.media.MediumError.{MediumError}
use Rattle.volume_core.specs.declared.media.MediumError.TheVariants.{Refused, NoMemory, SideFull, Device, Failed, Unreadable}
use Rattle.volume_core.specs.declared.media.NotAccepted.{NotAccepted}
use Rattle.volume_core.specs.declared.media.Turn.{Turn}
use Rattle.volume_core.specs.declared.media.Turn.TheVariants as turns
use Rattle.volume_core.specs.Volume.{Part, refusal_of, changed, after}

-- what a medium holds (own)
pub record MediumState : Type 0 where
  -- open; a parked medium has what its side gives
  pub awake : Bool
  -- the volume that its side gives; None is a side with no volume, a parked medium's alone
  pub stored : Option (List Part)
  -- the changes that were accepted and are not stored yet, in order; of a parked medium none
  pub pending : List Change
  -- of a medium that has failed, and of one that was parked then: the changes of the frame that was in flight when
  -- the device failed. The side gives `stored` with none or all of them.
  pub torn : List Change
  pub failed : Bool
  -- the bytes that may still be added to the side; None is no bound, as in memory
  pub room : Option ℕ
  -- of a parked medium alone: it was not opened yet. Its side gives what a read gives now. No frame is in flight. A
  -- device that fails in its opening may leave a side that gives another volume, or none.
  pub unread : Bool

-- the volume that a side gives; of a side with none, one of no partition (own)
abbrev pub volume_or_empty : Option (List Part) → List Part
volume_or_empty None = []
volume_or_empty (Some volume) = volume

-- the volume that a medium is seen as: what is stored, with what is pending carried out (own)
abbrev pub volume_of : MediumState → List Part
volume_of state = after (volume_or_empty state.stored) state.pending

-- what a change takes of a side as a frame of its own: gate, length and record, 15 bytes, and the block's own (own)
abbrev pub frame_size : Change → ℕ
frame_size (Put part at block) = FRAMED_HEAD + length block
frame_size (Marks part at count) = FRAMED_HEAD
frame_size (Erase part at) = FRAMED_HEAD

-- the bytes of a change's block; marks and an erasing have none (own)
abbrev pub block_bytes : Change → ℕ
block_bytes (Put part at block) = length block
block_bytes (Marks part at count) = 0
block_bytes (Erase part at) = 0

-- these changes, each as a frame of its own, exceed the room (own)
abbrev pub IsFull : Option ℕ → List Change → Type 0
IsFull None changes = ⊥
IsFull (Some room) changes = room < sum_by frame_size changes

-- these changes, each as a frame of its own, fit the room: it is not full (own)
abbrev pub Fits : Option ℕ → List Change → Type 0
Fits None changes = Unit {0}
Fits (Some room) changes = sum_by frame_size changes ≤ room

-- beside these changes a frame of a block of this many bytes, 0 for a change with none, fits the room (own)
abbrev pub HasRoomFor : Option ℕ → List Change → ℕ → Type 0
HasRoomFor None changes bytes = Unit {0}
HasRoomFor (Some room) changes bytes = sum_by frame_size changes + (FRAMED_HEAD + bytes) ≤ room

-- of the room of a side at most what these changes take as frames of their own is gone; no bound stays none (own)
abbrev pub LeavesRoom : Option ℕ → List Change → Option ℕ → Type 0
LeavesRoom None made now = now ≡ None
LeavesRoom (Some room) made None = Unit {0}
LeavesRoom (Some room) made (Some left) = room ≤ left + sum_by frame_size made

-- the volume is now this one, and the medium is awake and works (own)
pub record Works (volume : List Part) (new : MediumState) : Type 0 where
  pub volume_is : volume_of new ≡ volume
  pub works : new.failed ≡ false
  pub awake : new.awake ≡ true

-- The device failed while something was stored: the medium has failed, and the volume is as it was. What did not get
-- stored is pending still, and of it the frame that was in flight is none or all (own).
pub record Breaks (old new : MediumState) : Type 0 where
  pub volume_is : volume_of new ≡ volume_of old
  pub broken : new.failed ≡ true
  pub awake : new.awake ≡ true
  pub some_pending : 1 ≤ length new.pending
  pub torn : (new.torn ≡ []) ⊎ (new.torn ≡ new.pending)

-- the device failed while a block was read: the medium has failed, no frame was in flight, and nothing else has
-- changed (own)
abbrev pub after_failed_read : MediumState → MediumState
after_failed_read state = record state { failed = true; torn = [] }

-- The result of asking a medium to accept a change. What was pending may have been stored before, but not where the
-- side is full: that is reported before any fault of storing and before a lack of memory. A failed medium accepts none,
-- and only a device fault makes it fail (own).
abbrev pub Accepts : MediumState → Change → Result Unit MediumError → MediumState → Type 0
Accepts old change (Ok done) new =
    (refusal_of (volume_of old) change ≡ None) × (old.failed ≡ false)
    × Works (changed (volume_of old) change) new × Fits old.room (old.pending ++ change ∷ [])
Accepts old change (Err (Refused cause)) new =
    (refusal_of (volume_of old) change ≡ Some cause) × (old.failed ≡ false) × (new ≡ old)
Accepts old change (Err NoMemory) new =
    (refusal_of (volume_of old) change ≡ None) × (old.failed ≡ false) × Works (volume_of old) new
    × Fits old.room (old.pending ++ change ∷ [])
Accepts old change (Err SideFull) new =
    (refusal_of (volume_of old) change ≡ None) × IsFull old.room (old.pending ++ change ∷ [])
    × (new ≡ old) × (old.failed ≡ false)
Accepts old change (Err Device) new =
    (refusal_of (volume_of old) change ≡ None) × (old.failed ≡ false) × (1 ≤ length old.pending)
    × Breaks old new × Fits old.room (old.pending ++ change ∷ [])
Accepts old change (Err Failed) new = (old.failed ≡ true) × (new ≡ old)
Accepts old change (Err Unreadable) new = ⊥

-- the result of `accept`, without the change that is returned (own)
abbrev pub accept_answer : Result Unit NotAccepted → Result Unit MediumError
accept_answer (Ok done) = Ok done
accept_answer (Err refused) = Err refused.error

-- the changes that a result says are accepted (own)
abbrev pub accepted_by : Result Unit MediumError → Change → List Change
accepted_by (Ok done) change = change ∷ []
accepted_by (Err error) change = []

-- the device failed in the call (own)
abbrev pub met_fault : Result Unit MediumError → Bool
met_fault (Err Device) = true
met_fault _ = false

-- The result of asking a medium to store what is pending (own).
abbrev pub Settles : MediumState → Result Unit MediumError → MediumState → Type 0
Settles old (Ok done) new = (old.failed ≡ false) × (new.pending ≡ []) × Works (volume_of old) new
Settles old (Err Device) new = (old.failed ≡ false) × (1 ≤ length old.pending) × Breaks old new
Settles old (Err Failed) new = (old.failed ≡ true) × (new ≡ old)
Settles old (Err _) new = ⊥

-- The result of asking a medium for the bytes of a block (own).
abbrev pub Fetches : MediumState → Result Unit MediumError → MediumState → Type 0
Fetches old (Ok done) new = (old.failed ≡ false) × (new ≡ old)
Fetches old (Err NoMemory) new = (old.failed ≡ false) × (new ≡ old)
Fetches old (Err Device) new = (old.failed ≡ false) × (new ≡ after_failed_read old)
Fetches old (Err Failed) new = (old.failed ≡ true) × (new ≡ old)
Fetches old (Err _) new = ⊥

-- The result of a flusher's turn: nothing is pending or the medium has failed; all that was pending was stored; or the
-- device failed while it was (own).
abbrev pub Turns : MediumState → Turn → MediumState → Type 0
Turns old turns.Idle new = ((old.pending ≡ []) ⊎ (old.failed ≡ true)) × (new ≡ old)
Turns old (turns.Stored n) new =
    (old.failed ≡ false) × (1 ≤ n) × (n ≡ length old.pending) × (new.pending ≡ [])
    × Works (volume_of old) new
Turns old turns.Device new = (old.failed ≡ false) × (1 ≤ length old.pending) × Breaks old new

-- the device failed in the turn (own)
abbrev pub turn_met_fault : Turn → Bool
turn_met_fault turns.Device = true
turn_met_fault _ = false

-- a parked medium, which was opened before or was not; where it is honest, its side gives this volume, with none or all
-- of these changes, and of this room at most what some changes take is gone (own)
pub record IsParked
    (honest : Type 0) (stored : Option (List Part)) (torn : List Change) (room : Option ℕ) (taken : List Change)
    (unread : Bool) (new : MediumState) : Type 0 where
  pub parked : new.awake ≡ false
  pub works : new.failed ≡ false
  pub nothing_pending : new.pending ≡ []
  pub unread_is : new.unread ≡ unread
  pub gives : honest → (new.stored ≡ stored) × (new.torn ≡ torn)
  pub room_is : honest → LeavesRoom room taken new.room

-- what the side of a medium gives once it is parked: all that was accepted, or of one that has failed what was stored,
-- with none or all of the frame that was in flight (own)
abbrev pub IsParkedFrom : Type 0 → Bool → MediumState → MediumState → Type 0
IsParkedFrom honest false old new = IsParked honest (Some (volume_of old)) [] old.room old.pending false new
IsParkedFrom honest true old new = IsParked honest old.stored old.torn old.room [] false new

-- The result of parking a medium, once what is pending is stored. A medium that has failed drops what is pending (own).
abbrev pub Parks : Type 0 → MediumState → Result Unit MediumError → MediumState → Type 0
Parks honest old (Ok done) new = IsParkedFrom honest old.failed old new
Parks honest old (Err Device) new = (old.failed ≡ false) × (1 ≤ length old.pending) × Breaks old new
Parks honest old (Err _) new = ⊥

-- the volume that a side gives, or that with all changes of the frame that was in flight (own)
abbrev pub GivenBy : MediumState → Option (List Part) → Type 0
GivenBy old volume =
    (volume ≡ old.stored) ⊎ (volume ≡ Some (after (volume_or_empty old.stored) old.torn))

-- a medium that was just opened: awake, with nothing pending (own)
pub record IsFresh (new : MediumState) : Type 0 where
  pub awake : new.awake ≡ true
  pub works : new.failed ≡ false
  pub nothing_pending : new.pending ≡ []
  pub read : new.unread ≡ false

-- a medium is opened by what its side gave, which is a volume; the first opening finds just that (own)
pub record Opens (old new : MediumState) : Type 0 where
  pub volume : GivenBy old new.stored
  pub first : old.unread ≡ true → new.stored ≡ old.stored
  pub readable : old.stored ≡ None → ⊥
  pub room_is : LeavesRoom old.room old.torn new.room

-- a parked medium that is not opened: what its side gives stays (own)
abbrev pub StaysParked : Type 0 → MediumState → MediumState → Type 0
StaysParked honest old new = IsParked honest old.stored old.torn old.room [] old.unread new

-- A parked medium that is not opened, since the device failed. What its side gives stays, if the medium was opened
-- before. If it was not, nothing is known of that: a sync failed, and promises nothing of what a read gives. No frame
-- is in flight that was not (own).
pub record IsUnopened (honest : Type 0) (old new : MediumState) : Type 0 where
  pub stays : StaysParked (honest × (old.unread ≡ false)) old new
  pub torn : honest → new.torn ≡ old.torn

-- A medium that is awake stays as it is. A parked one is opened, or stays parked: its side gives no volume, the device
-- failed, or memory ran out. What its side gives is known where it is honest (own).
abbrev pub WakesFrom : Type 0 → Bool → MediumState → Result Unit MediumError → MediumState → Type 0
WakesFrom honest true old (Ok done) new = (old.failed ≡ false) × (new ≡ old)
WakesFrom honest true old (Err Failed) new = (old.failed ≡ true) × (new ≡ old)
WakesFrom honest true old (Err _) new = ⊥
WakesFrom honest false old (Ok done) new = IsFresh new × (honest → Opens old new)
WakesFrom honest false old (Err NoMemory) new = StaysParked honest old new
WakesFrom honest false old (Err Device) new = IsUnopened honest old new
WakesFrom honest false old (Err Unreadable) new = StaysParked honest old new × (honest → old.stored ≡ None)
WakesFrom honest false old (Err _) new = ⊥

-- The result of opening a medium (own).
abbrev pub Wakes : Type 0 → MediumState → Result Unit MediumError → MediumState → Type 0
Wakes honest old result new = WakesFrom honest old.awake old result new
