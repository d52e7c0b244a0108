-- What a call does to a drive over any medium and any keeper.
use Rattle.std.specs.Prelude.{◌≡◌, ◌⊎◌, ℕ, List, [], Option, None, Some, Bool, true, false, Result, Err}
use Rattle.vtl_base.specs.Below.{Below, Advances}
use Rattle.scsi_sense.specs.declared.replies.Reply.{Reply}
use Rattle.pr_core.specs.declared.states.PrState.{PrState}
use Rattle.pr_core.specs.Keepers.{KeeperState}
use Rattle.volume_core.specs.declared.changes.Change.{Change}
use Rattle.volume_core.specs.Medium.{MediumState}
use Rattle.volume_core.specs.Stores.{Stores}
use Rattle.drive_commands.specs.declared.bays.Bay.{Bay}
use Rattle.drive_commands.specs.declared.bays.Bay.TheVariants.{Loaded, Unloaded}
use Rattle.drive_commands.specs.declared.faults.Fault.{Fault}
use Rattle.drive_commands.specs.declared.faults.Fault.TheVariants.{Writing, Reading, Saving}
use Rattle.drive_commands.specs.State.{Machine, DriveState, machine_of, medium_in}
use Rattle.drive_commands.specs.Faults.{reply_of}
use Rattle.drive_commands.specs.Relations.{Made}
use Rattle.drive_commands.specs.Work.{Request}
use Rattle.drive_commands.specs.Events.{Execute}
use Rattle.drive_commands.specs.Step.{Answered, Step}
use Rattle.drive_commands.specs.Counted.{counted_up}

-- the device below the medium failed (own)
abbrev pub is_device_fault : {R : Type 0} → Result R Fault → Bool
is_device_fault (Err Writing) = true
is_device_fault (Err Reading) = true
is_device_fault _ = false

-- the device below the keeper failed (own)
abbrev pub is_keeper_fault : {R : Type 0} → Result R Fault → Bool
is_keeper_fault (Err Saving) = true
is_keeper_fault _ = false

-- the medium, if there is one, accepted just these changes, and its device failed just where this says so (own)
abbrev pub AdvancesIn :
    {M : Type 0} → Below M Change → Option M → List Change → Bool → Option M → Type 0
AdvancesIn below (Some old) made fault (Some new) = Advances below old made fault new
AdvancesIn below None made fault None = (made ≡ []) × (fault ≡ false)
AdvancesIn below _ made fault _ = ⊥

-- of a medium that is loaded before and after, what is stored comes from storing a first part of what was pending and
-- is now accepted (own)
abbrev pub StoresIn : {M : Type 0} → (M → MediumState) → Bay M → List Change → Bay M → Type 0
StoresIn state (Loaded old) made (Loaded new) = Stores (state old) made (state new)
StoresIn state _ made _ = Unit {0}

-- a medium that is not loaded: it is not touched, or its side is left alone, as where it is opened (own)
abbrev pub OpensAlone : {M : Type 0} → Below M Change → Bay M → Option M → Type 0
OpensAlone below (Unloaded old) (Some new) = (new ≡ old) ⊎ below.left_alone old new
OpensAlone below _ _ = Unit {0}

-- the medium, if there is one, is honest (own)
abbrev pub HonestIn : {M : Type 0} → Below M Change → Option M → Type 0
HonestIn below None = Unit {0}
HonestIn below (Some m) = below.honest m

-- a drive takes such a step of its machine, its medium and its keeper follow, a medium that is opened is left alone,
-- and the changes are counted (own)
pub record Takes {M K : Type 0}
    (state : M → MediumState) (below : Below M Change) (kept : K → KeeperState) (keeps : Below K PrState)
    (S : Result Reply Fault → Made → Machine → Type 0)
    (old : DriveState M K) (answer : Result Reply Fault) (new : DriveState M K) : Type 0 where
  pub made : Made
  pub step : S answer made (machine_of state kept new)
  pub advances :
      AdvancesIn below (medium_in old.bay) made.changes (is_device_fault answer) (medium_in new.bay)
  pub stores : StoresIn state old.bay made.changes new.bay
  pub alone : OpensAlone below old.bay (medium_in new.bay)
  pub saves : Advances keeps old.keeper made.saved (is_keeper_fault answer) new.keeper
  pub counted : new.accepted ≡ counted_up old.accepted made.changes

-- a host is answered by a step of the machine, in which a block's bytes are those that stand on the medium where it is
-- honest (own)
pub record Answers {M K : Type 0}
    (state : M → MediumState) (below : Below M Change) (kept : K → KeeperState) (keeps : Below K PrState)
    (old : DriveState M K) (request : Request) (reply : Reply) (new : DriveState M K) : Type 0 where
  pub answer : Result Reply Fault
  pub replied : reply ≡ reply_of answer
  pub taken :
      Takes state below kept keeps
      (λ answer made new. Step (HonestIn below (medium_in old.bay)) (machine_of state kept old)
      (Execute request) (Answered answer) made new)
      old answer new

-- what a host sends (own)
abbrev pub asked : ℕ → List ℕ → List ℕ → Request
asked nexus cdb sent = record { nexus = nexus; cdb = cdb; sent = sent }
