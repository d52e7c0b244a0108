-- That each call of the halves of a drive is a step of a list of calls, whatever waits in the ring.
use Rattle.std.specs.Prelude.{◌≡◌, ◌⊎◌, ◌++◌, ℕ, List, [], ◌∷◌, map, Option}
use Rattle.tape_disk.specs.Disk.{DiskState}
use Rattle.scsi_sense.specs.declared.replies.Reply.{Reply}
use Rattle.volume_core.specs.declared.changes.Change.{Change}
use Rattle.volume_core.specs.declared.media.Turn.{Turn}
use Rattle.drive_commands.specs.Work.{Request}
use Rattle.split_bay.specs.declared.items.Item.TheVariants.{Sent}
use Rattle.split_bay.specs.Backs.{BackState}
use Rattle.split_bay.specs.Fronts.{FrontState}
use Rattle.split_bay.specs.Halves.{is_unreported}
use Rattle.split_runs.specs.Calls.{AllHalfSteps, HalfCall, HalvesState, Roomed, Settled, StepsAlone, StepsBoth, StepsSettled, StepsTold, StepsTurned, left_told}

-- two halves, with these changes in the ring between them (own)
abbrev pub halves_of : {D : Type 0} → FrontState D → BackState D → List Change → HalvesState D
halves_of front back waiting = record { front = front; back = back; waiting = waiting }

-- the calls of halves that make room: they take a turn too, where they lack it (own)
abbrev pub AreRoomed : List HalfCall → Type 0
AreRoomed calls = (calls ≡ Roomed ∷ []) ⊎ ((turn : Turn) × (calls ≡ Roomed ∷ Settled turn ∷ []))

module _ {D : Type 0} (state : D → DiskState) where
  -- whatever the disk's half is, and whatever waits: the hosts' half was asked alone (own)
  abbrev pub IsAloneStep : FrontState D → Request → Option Reply → List ℕ → FrontState D → Type 0
  IsAloneStep old request result left new =
      (back : BackState D) (waiting : List Change)
      → (made : List Change)
      × StepsAlone state (halves_of old back waiting) request result left made
      (halves_of new back (waiting ++ made))

  -- Whatever the hosts' half is: the disk's half took a turn, where what it then has received begins what was sent
  -- (own).
  abbrev pub IsTurnStep : BackState D → Turn → BackState D → Type 0
  IsTurnStep old turn new =
      (front : FrontState D) (waiting left : List Change) → front.sending.sent ≡ new.received ++ map Sent left
      → StepsTurned state (halves_of front old waiting) turn [] (halves_of front new left)

  -- whatever waits: both halves answered (own)
  abbrev pub IsBothStep :
      FrontState D → BackState D → Request → Reply → List ℕ → FrontState D → BackState D → Type 0
  IsBothStep front back request reply left front' back' =
      (waiting : List Change)
      → (made : List Change)
      × StepsBoth state (halves_of front back waiting) request reply left made (halves_of front' back' [])

  -- whatever waits: both halves took a turn (own)
  abbrev pub IsSettledStep : FrontState D → BackState D → Turn → FrontState D → BackState D → Type 0
  IsSettledStep front back turn front' back' =
      (waiting : List Change) → StepsSettled state (halves_of front back waiting) turn [] (halves_of front' back' [])

  -- whatever waits: both halves made room, and took a turn where they lack it (own)
  abbrev pub IsRoomStep : FrontState D → BackState D → FrontState D → BackState D → Type 0
  IsRoomStep front back front' back' =
      (waiting : List Change)
      → (calls : List HalfCall) × AreRoomed calls
      × AllHalfSteps state (halves_of front back waiting) calls [] (halves_of front' back' [])

  -- whatever waits: a fault was reported, if there was one (own)
  abbrev pub IsToldStep : FrontState D → BackState D → FrontState D → BackState D → Type 0
  IsToldStep front back front' back' =
      (waiting : List Change)
      → StepsTold state (halves_of front back waiting) []
      (halves_of front' back' (left_told state (is_unreported state front back) waiting))
