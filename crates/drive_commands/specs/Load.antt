-- The loading of a medium into an empty drive, and the power on.
use Rattle.std.specs.Prelude.{◌≡◌, [], false, Option, None, Some, Result, Ok, Err}
use Rattle.scsi_sense.specs.declared.replies.Reply.{Reply}
use Rattle.scsi_sense.specs.Replies.{good_with, check_with}
use Rattle.scsi_sense.specs.Senses.{medium_failed, read_error}
use Rattle.pr_core.specs.Keepers.{KeeperState}
use Rattle.volume_core.specs.declared.media.MediumError.{MediumError}
use Rattle.volume_core.specs.declared.media.MediumError.TheVariants as Errors
use Rattle.volume_core.specs.Medium.{MediumState, Wakes}
use Rattle.drive_commands.specs.declared.bays.Bay.{Bay}
use Rattle.drive_commands.specs.declared.bays.Bay.TheVariants.{Empty, Unloaded, Loaded}
use Rattle.drive_commands.specs.declared.faults.Fault.{Fault}
use Rattle.drive_commands.specs.declared.faults.Fault.TheVariants.{NoMemory, Reading}
use Rattle.drive_commands.specs.State.{Machine, loaded, left_of, powered_on}
use Rattle.drive_commands.specs.Relations.{Made, made_nothing, MachineRelation}

-- what a host is answered where a medium can't be opened: a side that gives no volume is a read error, as a device
-- fault is, though nothing failed (own)
abbrev pub wake_answer : MediumError → Result Reply Fault
wake_answer Errors.NoMemory = Err NoMemory
wake_answer Errors.Device = Err Reading
wake_answer Errors.Unreadable = Ok (check_with read_error [])
wake_answer _ = Ok (check_with medium_failed [])

-- a medium that was asked to open is loaded, or comes back and nothing changes (SSC-4, LOAD UNLOAD; the rest own)
abbrev pub LoadsAs : Result Unit MediumError → MediumState → Machine → Result Reply Fault → Machine → Type 0
LoadsAs (Ok done) opened old answer new = (answer ≡ Ok (good_with [])) × (new ≡ loaded old opened)
LoadsAs (Err error) opened old answer new = (answer ≡ wake_answer error) × (new ≡ old)

-- the same by what is in the drive: only an empty one takes a medium in (SMC-3)
abbrev pub LoadsInto : Type 0 → Bay MediumState → MediumState → MachineRelation
LoadsInto honest Empty medium old answer made new =
    (woke : Result Unit MediumError) × (opened : MediumState) × Wakes honest medium woke opened
    × LoadsAs woke opened old answer new × (made ≡ made_nothing)
LoadsInto honest _ medium old answer made new = ⊥

-- A medium, awake or parked, is opened, and then loaded into an empty drive, and into no other; what stands on it is
-- known where it is honest (SSC-4, SMC-3; honesty own).
abbrev pub Loads : Type 0 → MediumState → MachineRelation
Loads honest medium old answer made new = LoadsInto honest old.bay medium old answer made new

-- A parked medium is put into an empty drive, and into no other: it stands there, not loaded, and no unit attention
-- condition is established (SMC-3; that none is established, own).
abbrev pub Inserts : MediumState → Machine → Result Unit Fault → Made → Machine → Type 0
Inserts medium old outcome made new =
    (old.bay ≡ Empty) × (medium.awake ≡ false) × (outcome ≡ Ok tt) × (made ≡ made_nothing)
    × (new ≡ record old { bay = Unloaded medium })

-- Where a medium stands that was asked to open when the power came on: loaded where it is awake, one that has failed
-- too, else unloaded. Only where memory runs out the drive is not switched on (own).
abbrev pub bay_when_on : {M : Type 0} → Result Unit MediumError → M → Option (Bay M)
bay_when_on (Ok done) opened = Some (Loaded opened)
bay_when_on (Err Errors.Failed) opened = Some (Loaded opened)
bay_when_on (Err Errors.Unreadable) opened = Some (Unloaded opened)
bay_when_on (Err Errors.Device) opened = Some (Unloaded opened)
bay_when_on (Err _) opened = None

-- the outcome of a power on: it was done, or the device failed (own)
abbrev pub power_on_outcome : Result Unit MediumError → Result Unit Fault
power_on_outcome (Err Errors.Device) = Err Reading
power_on_outcome _ = Ok tt

-- a drive is switched on with this medium in it, if any, and with this keeper: its reservations are those that a loss
-- of power left (SPC-4, power on, persist through power loss; SSC-4)
abbrev pub PowersOn : Type 0 → Option MediumState → KeeperState → Result Unit Fault → Made → Machine → Type 0
PowersOn honest None keeper outcome made new =
    (outcome ≡ Ok tt) × (made ≡ made_nothing) × (new ≡ powered_on Empty (left_of keeper.saved) keeper)
PowersOn honest (Some medium) keeper outcome made new =
    (woke : Result Unit MediumError) × (opened : MediumState) × (bay : Bay MediumState)
    × Wakes honest medium woke opened × (bay_when_on woke opened ≡ Some bay)
    × (outcome ≡ power_on_outcome woke) × (made ≡ made_nothing)
    × (new ≡ powered_on bay (left_of keeper.saved) keeper)
