-- LOAD UNLOAD, and a cartridge that goes out of a drive.
use Rattle.std.specs.Prelude.{◌≡◌, ℕ, [], Bool, true, false, Result, Ok, Err}
use Rattle.scsi_attention.specs.declared.attention_sets.Attention.TheVariants.{MediumChanged}
use Rattle.scsi_attention.specs.Attentions.{established_for_others}
use Rattle.scsi_sense.specs.declared.replies.Reply.{Reply}
use Rattle.scsi_sense.specs.Replies.{good_with, check_with}
use Rattle.scsi_sense.specs.Senses.{medium_failed, medium_not_present}
use Rattle.volume_core.specs.declared.media.MediumError.{MediumError}
use Rattle.volume_core.specs.Medium.{MediumState, Parks, Wakes}
use Rattle.drive_commands.specs.declared.bays.Bay.{Bay}
use Rattle.drive_commands.specs.declared.bays.Bay.TheVariants.{Empty, Unloaded, Loaded}
use Rattle.drive_commands.specs.declared.faults.Fault.{Fault}
use Rattle.drive_commands.specs.declared.faults.Fault.TheVariants.{Writing}
use Rattle.drive_commands.specs.State.{Machine, DriveState, start}
use Rattle.drive_commands.specs.Relations.{MachineRelation, RepliesAlone, made_nothing}
use Rattle.drive_commands.specs.Load.{wake_answer}
use Rattle.drive_commands.specs.OnMedium.{OnMediumIn}
use Rattle.drive_commands.specs.StoredFirst.{StoredFirst, GoesTo}

-- a drive in which this medium stands, not loaded (SSC-4)
abbrev pub unloaded : {M K : Type 0} → DriveState M K → M → DriveState M K
unloaded drive medium = record drive { bay = Unloaded medium }

-- an empty drive (SMC-3)
abbrev pub emptied : {M K : Type 0} → DriveState M K → M → DriveState M K
emptied drive medium = record drive { bay = Empty }

-- A drive once a nexus has loaded the medium in it: it is at the start. For every other nexus the condition that the
-- medium may have changed is established (SSC-4, LOAD UNLOAD).
abbrev pub reloaded : {M K : Type 0} → DriveState M K → ℕ → M → DriveState M K
reloaded drive nexus medium = record drive {
  bay = Loaded medium;
  position = start;
  attentions = established_for_others drive.attentions nexus MediumChanged;
}

-- A loaded medium was parked, with this result. Where it is parked, `leave` gives the drive that is left. Where the
-- device failed, the medium stays loaded, and has failed (SSC-4, LOAD UNLOAD; the fault own).
abbrev pub ParksAs :
    (Machine → MediumState → Machine) → Result Unit MediumError → MediumState → Machine
    → Result Reply Fault → Machine → Type 0
ParksAs leave (Ok done) parked old answer new = (answer ≡ Ok (good_with [])) × (new ≡ leave old parked)
ParksAs leave (Err error) broken old answer new =
    (answer ≡ Err Writing) × (new ≡ record old { bay = Loaded broken })

-- The medium in the drive is unloaded, and `leave` gives the drive that is left. A loaded medium is parked, once what
-- is pending is stored. One that is not loaded is parked already (SSC-4, LOAD UNLOAD; that a failed medium gives up
-- what is pending, own).
abbrev pub UnloadsInto : (Machine → MediumState → Machine) → Type 0 → Bay MediumState → MachineRelation
UnloadsInto leave honest Empty old answer made new =
    RepliesAlone (check_with medium_not_present []) old answer made new
UnloadsInto leave honest (Unloaded medium) old answer made new =
    (answer ≡ Ok (good_with [])) × (made ≡ made_nothing) × (new ≡ leave old medium)
UnloadsInto leave honest (Loaded medium) old answer made new =
    (parking : Result Unit MediumError) × (left : MediumState) × Parks honest medium parking left
    × ParksAs leave parking left old answer new × (made ≡ made_nothing)

-- A medium that was not loaded was opened, with this result. Where it is open it is loaded; else it stays in the drive
-- as the opening left it (SSC-4, LOAD UNLOAD; the rest own).
abbrev pub ReloadsAs :
    Result Unit MediumError → MediumState → ℕ → Machine → Result Reply Fault → Machine → Type 0
ReloadsAs (Ok done) opened nexus old answer new = (answer ≡ Ok (good_with [])) × (new ≡ reloaded old nexus opened)
ReloadsAs (Err error) parked nexus old answer new = (answer ≡ wake_answer error) × (new ≡ unloaded old parked)

-- A loaded medium is asked to load. If it has failed, that is refused; else what is pending is stored, and the position
-- is the start (SSC-4, LOAD UNLOAD; the refusal own).
abbrev pub LoadsAgain : Bool → MediumState → MachineRelation
LoadsAgain true medium old answer made new = RepliesAlone (check_with medium_failed []) old answer made new
LoadsAgain false medium old answer made new =
    OnMediumIn (Loaded medium) (StoredFirst (GoesTo (λ m. start))) old answer made new

-- what is in the drive is loaded (SSC-4, LOAD UNLOAD)
abbrev pub LoadsIn : Type 0 → Bay MediumState → ℕ → MachineRelation
LoadsIn honest Empty nexus old answer made new =
    RepliesAlone (check_with medium_not_present []) old answer made new
LoadsIn honest (Unloaded medium) nexus old answer made new =
    (woke : Result Unit MediumError) × (opened : MediumState) × Wakes honest medium woke opened
    × ReloadsAs woke opened nexus old answer new × (made ≡ made_nothing)
LoadsIn honest (Loaded medium) nexus old answer made new = LoadsAgain medium.failed medium old answer made new

-- LOAD, or UNLOAD (SSC-4, LOAD UNLOAD)
abbrev pub LoadUnloadWork : Type 0 → Bool → ℕ → MachineRelation
LoadUnloadWork honest true nexus old answer made new = LoadsIn honest old.bay nexus old answer made new
LoadUnloadWork honest false nexus old answer made new = UnloadsInto unloaded honest old.bay old answer made new

-- what is in the drive is unloaded, and goes out of it (SSC-4, LOAD UNLOAD; SMC-3)
abbrev pub TakesOut : Type 0 → MachineRelation
TakesOut honest old answer made new = UnloadsInto emptied honest old.bay old answer made new
