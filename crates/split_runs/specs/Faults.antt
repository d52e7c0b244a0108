-- What the halves of a drive do no more after a fault of the device.
use Rattle.std.specs.Prelude.{◌≡◌, ℕ, List, [], ◌∷◌, true, Option}
use Rattle.tape_disk.specs.Disk.{DiskState}
use Rattle.scsi_sense.specs.declared.replies.Reply.{Reply}
use Rattle.volume_core.specs.declared.changes.Change.{Change}
use Rattle.drive_commands.specs.Work.{Request}
use Rattle.split_bay.specs.Backs.{is_stuck_in}
use Rattle.split_runs.specs.Calls.{AllHalfSteps, Alone, HalfCall, HalvesState, KeepsHalves, StepsAlone, StepsTold, Turned, is_told}

-- in none of these calls both halves are held: hosts are answered by their half alone, and turns are taken (own)
abbrev pub NoneHoldsBoth : List HalfCall → Type 0
NoneHoldsBoth [] = Unit {0}
NoneHoldsBoth (Alone request result left ∷ calls) = NoneHoldsBoth calls
NoneHoldsBoth (Turned turn ∷ calls) = NoneHoldsBoth calls
NoneHoldsBoth (_ ∷ calls) = ⊥

module _ {D : Type 0} (state : D → DiskState) where
  -- a disk's half that is stuck is the same after any such calls: it receives nothing, and its disks were not called
  -- (own)
  abbrev pub StuckHalvesRest : Type 0
  StuckHalvesRest =
      (old new : HalvesState D) (calls : List HalfCall) (made : List Change)
      → is_stuck_in state old.back.medium ≡ true → NoneHoldsBoth calls → AllHalfSteps state old calls made new
      → new.back ≡ old.back

  -- hosts that see that the medium has failed change nothing of it by their half alone (own)
  abbrev pub ToldHostsAcceptNothing : Type 0
  ToldHostsAcceptNothing =
      (old new : HalvesState D) (request : Request) (result : Option Reply) (left : List ℕ) (made : List Change)
      → KeepsHalves state old → is_told old ≡ true → StepsAlone state old request result left made new → made ≡ []

  -- to report a fault a second time changes nothing (own)
  abbrev pub ToldOnceByHalves : Type 0
  ToldOnceByHalves =
      (old mid new : HalvesState D) (made made' : List Change) → StepsTold state old made mid
      → StepsTold state mid made' new → new ≡ mid
