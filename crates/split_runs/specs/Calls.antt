-- Lists of calls of the two halves of a drive, each given what the one before it left.
use Rattle.std.specs.Prelude.{◌≡◌, ◌++◌, ℕ, List, [], ◌∷◌, map, Bool, true, false, Option, None, Some, option_map}
use Rattle.tape_disk.specs.Disk.{DiskState}
use Rattle.scsi_sense.specs.declared.replies.Reply.{Reply}
use Rattle.volume_core.specs.declared.changes.Change.{Change}
use Rattle.volume_core.specs.declared.media.Turn.{Turn}
use Rattle.drive_commands.specs.Work.{Request}
use Rattle.tape_buffer.specs.Moves.{with_changes}
use Rattle.tape_buffer.specs.State.{BufferState}
use Rattle.tape_buffer.specs.Taking.{DisksState}
use Rattle.bay_moves.specs.Elements.{BayState}
use Rattle.split_bay.specs.declared.items.Item.TheVariants.{Sent}
use Rattle.split_bay.specs.Backs.{BackState, KeepsDiskHalf, TurnsBack, works_in}
use Rattle.split_bay.specs.Fronts.{AnswersHalf, AnswersOrWaits, FrontState, KeepsHostsHalf}
use Rattle.split_bay.specs.Halves.{ExecutesBoth, HoldsHalves, ReportsBoth, SettlesBoth, is_unreported}
use Rattle.split_bay.specs.Spans.{medium_begun, span_of}

-- A drive in two halves: what is behind each lock, and the changes in the ring between them, which were sent and are
-- not received yet (own).
pub record HalvesState (D : Type 0) : Type 0 where
  pub front : FrontState D
  pub back : BackState D
  pub waiting : List Change

-- a call of a half, or of both, with what it answers (own)
pub data HalfCall : Type 0 where
  -- the hosts' half is asked alone: it answers, or not; this is left of the data
  Alone : (request : Request) → (result : Option Reply) → (left : List ℕ) → HalfCall
  -- a flusher's turn of the disk's half
  Turned : (turn : Turn) → HalfCall
  -- both halves answer
  Both : (request : Request) → (reply : Reply) → (left : List ℕ) → HalfCall
  -- both halves take a flusher's turn
  Settled : (turn : Turn) → HalfCall
  -- both halves make room for more changes
  Roomed : HalfCall
  -- a fault of the disk's half is reported, if there is one that was not
  Told : HalfCall

module _ {D : Type 0} where
  -- Whether hosts see that the medium has failed: it had, when the span began in which hosts are. Without a medium it
  -- has not (own).
  abbrev pub is_told : HalvesState D → Bool
  is_told halves = (medium_begun (span_of halves.front.sending.sent)).failed

  -- the medium of both halves, with all that hosts accepted: the disk's half's, and what is in the ring behind it (own)
  abbrev pub whole_medium : HalvesState D → Option (BufferState D)
  whole_medium halves = option_map (λ (m : DisksState D). with_changes m.buffer halves.waiting) halves.back.medium

module _ {D : Type 0} (state : D → DiskState) where
  -- What holds of two halves, and the ring between them, before and after each call: what the type of each half keeps;
  -- what was received begins what was sent, and the rest waits; in a span that began with a failed medium nothing may
  -- be sent (own).
  pub record KeepsHalves (halves : HalvesState D) : Type 0 where
    pub front : KeepsHostsHalf state halves.front
    pub back : KeepsDiskHalf state halves.back
    pub ring : halves.front.sending.sent ≡ halves.back.received ++ map Sent halves.waiting
    pub spent :
        (medium_begun (span_of halves.front.sending.sent)).failed ≡ true
        → (span_of halves.front.sending.sent).begin.left ≡ 0

  -- the clause of `Front::execute`, and the changes that it says were accepted (own)
  abbrev pub AcceptsAlone :
      FrontState D → Request → Option Reply → List Change → FrontState D → List ℕ → Type 0
  AcceptsAlone old request None made new left = AnswersOrWaits state old request None new left × (made ≡ [])
  AcceptsAlone old request (Some reply) made new left =
      (answers : AnswersHalf state old request reply new left) × (made ≡ answers.step.1.step.taken.made.changes)

  -- The hosts' half alone was asked. What it accepted waits behind what waited (own).
  pub record StepsAlone
      (old : HalvesState D) (request : Request) (result : Option Reply) (left : List ℕ) (made : List Change)
      (new : HalvesState D) : Type 0 where
    pub answers : AcceptsAlone old.front request result made new.front left
    pub back : new.back ≡ old.back
    pub waiting : new.waiting ≡ old.waiting ++ made
    pub keeps : KeepsHostsHalf state new.front

  -- A flusher's turn of the disk's half. What it has received then begins what was sent, and the rest waits: that much
  -- is known of the ring (own).
  pub record StepsTurned (old : HalvesState D) (turn : Turn) (made : List Change) (new : HalvesState D)
      : Type 0 where
    pub turns : TurnsBack state (works_in state old.back.medium) old.back turn new.back
    pub front : new.front ≡ old.front
    pub ring : new.front.sending.sent ≡ new.back.received ++ map Sent new.waiting
    pub made_is : made ≡ []
    pub keeps : KeepsDiskHalf state new.back

  -- Both halves were held and parted again: nothing waits, and each keeps what its type keeps (own).
  pub record PartsAgain (new : HalvesState D) : Type 0 where
    pub waiting : new.waiting ≡ []
    pub front : KeepsHostsHalf state new.front
    pub back : KeepsDiskHalf state new.back

  -- both halves answer a command (own)
  pub record StepsBoth
      (old : HalvesState D) (request : Request) (reply : Reply) (left : List ℕ) (made : List Change)
      (new : HalvesState D) : Type 0 where
    pub executes : ExecutesBoth state old.front old.back request reply left new.front new.back
    pub made_is : made ≡ executes.answers.step.step.taken.made.changes
    pub parts : PartsAgain new

  -- both halves take a flusher's turn (own)
  pub record StepsSettled (old : HalvesState D) (turn : Turn) (made : List Change) (new : HalvesState D)
      : Type 0 where
    pub settles : SettlesBoth state old.front old.back turn new.front new.back
    pub made_is : made ≡ []
    pub parts : PartsAgain new

  -- both halves make room (own)
  pub record StepsRoomed (old : HalvesState D) (made : List Change) (new : HalvesState D) : Type 0 where
    pub joined : BayState D
    pub holds : HoldsHalves state old.front old.back joined joined new.front new.back
    pub made_is : made ≡ []
    pub parts : PartsAgain new

  -- what waits once a fault was reported: nothing where there was one, since both halves were held; else what waited
  -- (own)
  abbrev pub left_told : Bool → List Change → List Change
  left_told true waiting = []
  left_told false waiting = waiting

  -- A fault of the disk's half is reported, where there is one that was not (own).
  pub record StepsTold (old : HalvesState D) (made : List Change) (new : HalvesState D) : Type 0 where
    pub reports : ReportsBoth state (is_unreported state old.front old.back) old.front old.back new.front new.back
    pub made_is : made ≡ []
    pub waiting : new.waiting ≡ left_told (is_unreported state old.front old.back) old.waiting
    pub front : KeepsHostsHalf state new.front
    pub back : KeepsDiskHalf state new.back

  -- one call leads from the old halves to the new ones, and accepts exactly these changes (own)
  abbrev pub HalfStep : HalvesState D → HalfCall → List Change → HalvesState D → Type 0
  HalfStep old (Alone request result left) made new = StepsAlone old request result left made new
  HalfStep old (Turned turn) made new = StepsTurned old turn made new
  HalfStep old (Both request reply left) made new = StepsBoth old request reply left made new
  HalfStep old (Settled turn) made new = StepsSettled old turn made new
  HalfStep old Roomed made new = StepsRoomed old made new
  HalfStep old Told made new = StepsTold old made new

  -- these calls, each given what the one before it left, accept exactly these changes (own)
  abbrev pub AllHalfSteps : HalvesState D → List HalfCall → List Change → HalvesState D → Type 0
  AllHalfSteps old [] made new = (new ≡ old) × (made ≡ [])
  AllHalfSteps old (call ∷ calls) made new =
      (between : HalvesState D) × (first : List Change) × (rest : List Change)
      × HalfStep old call first between × AllHalfSteps between calls rest new × (made ≡ first ++ rest)
