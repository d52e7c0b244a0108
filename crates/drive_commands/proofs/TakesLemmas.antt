-- A drive takes a step in which its medium and its keeper do nothing, or its medium alone works.
use Rattle.std.proofs.Common.{◌≡◌, ◌∙◌, inl, ℕ, List, [], Option, None, Some, Result, Ok, Err, Bool, true, false, refl, ap}
use Rattle.vtl_base.specs.Below.{Below, Advances}
use Rattle.scsi_sense.specs.declared.replies.Reply.{Reply}
use Rattle.scsi_sense.specs.SenseData.{sense_bytes}
use Rattle.scsi_opcodes.specs.declared.commands.Command.{Command}
use Rattle.scsi_opcodes.specs.Answers.{cut_to}
use Rattle.scsi_opcodes.specs.Commands.{code_of}
use Rattle.scsi_opcodes.specs.Opcodes.{needs_medium}
use Rattle.pr_core.specs.declared.states.PrState.{PrState}
use Rattle.pr_core.specs.Keepers.{KeeperState}
use Rattle.volume_core.specs.declared.changes.Change.{Change}
use Rattle.volume_core.specs.Medium.{MediumState}
use Rattle.volume_core.specs.Stores.{stores_nowhere}
use Rattle.positioning.specs.declared.positions.Pos.{Pos}
use Rattle.drive_commands.specs.declared.bays.Bay.{Bay}
use Rattle.drive_commands.specs.declared.bays.Bay.TheVariants.{Empty, Unloaded, Loaded}
use Rattle.drive_commands.specs.declared.conditions.Condition.{Condition}
use Rattle.drive_commands.specs.declared.conditions.Condition.TheVariants.{DeferredError, UnitAttention}
use Rattle.drive_commands.specs.declared.conditions.Denial.{Denial}
use Rattle.drive_commands.specs.declared.conditions.Denial.TheVariants.{Refused, Reported, Conflict}
use Rattle.drive_commands.specs.declared.faults.Fault.{Fault}
use Rattle.drive_commands.specs.declared.faults.Fault.TheVariants.{NoMemory, Writing, Reading, SideFull, Saving, StoreFull}
use Rattle.drive_commands.specs.State.{Machine, DriveState, machine_of, medium_in, mounted}
use Rattle.drive_commands.specs.Conditions.{condition_due, denial_reply, denied, without_condition}
use Rattle.drive_commands.specs.Relations.{Made, MediumRelation, made_nothing, made_on_medium}
use Rattle.drive_commands.specs.Mode.{in_asked_mode, in_mode}
use Rattle.drive_commands.specs.RequestSense.{RequestSenseWork, after_report, once_reported, sense_due}
use Rattle.drive_commands.specs.Giving.{Gives, GivesData}
use Rattle.drive_commands.specs.Work.{Request, Work, WorkBy}
use Rattle.drive_commands.specs.OnMedium.{OnMediumIn}
use Rattle.drive_commands.specs.Checks.{Executes, verdict}
use Rattle.drive_commands.specs.Inner.Carries.{Tallies}
use Rattle.drive_commands.specs.Execute.{Takes, AdvancesIn, OpensAlone, StoresIn, HonestIn, is_device_fault, is_keeper_fault}

-- what neither device failed in
pub record IsFaultless (answer : Result Reply Fault) : Type 0 where
  pub medium : is_device_fault answer ≡ false
  pub keeper : is_keeper_fault answer ≡ false

-- data that is given
pub gives_faultless : (bytes : List ℕ) (answer : Result Reply Fault) → Gives bytes answer → IsFaultless answer
gives_faultless bytes (Ok reply) h = record { medium = refl; keeper = refl }
gives_faultless bytes (Err NoMemory) h = record { medium = refl; keeper = refl }
gives_faultless bytes (Err Writing) h = absurd h
gives_faultless bytes (Err Reading) h = absurd h
gives_faultless bytes (Err (SideFull residue)) h = absurd h
gives_faultless bytes (Err Saving) h = absurd h
gives_faultless bytes (Err StoreFull) h = absurd h

-- what is in the bay and the keeper are not touched, and nothing is counted
pub record IsUntouched {M K : Type 0} (old new : DriveState M K) : Type 0 where
  pub bay : new.bay ≡ old.bay
  pub keeper : new.keeper ≡ old.keeper
  pub accepted : new.accepted ≡ old.accepted

module _ {M K : Type 0}
    (state : M → MediumState) (below : Below M Change) (kept : K → KeeperState) (keeps : Below K PrState)
    (nowhere : (m : M) → Advances below m [] false m) (keeps_nowhere : (k : K) → Advances keeps k [] false k) where
  pub advances_nowhere_in : (medium : Option M) → AdvancesIn below medium [] false medium
  advances_nowhere_in None = (refl, refl)
  advances_nowhere_in (Some m) = nowhere m

  pub stores_nowhere_in : (bay : Bay M) → StoresIn state bay [] bay
  stores_nowhere_in Empty = tt
  stores_nowhere_in (Unloaded m) = tt
  stores_nowhere_in (Loaded m) = stores_nowhere (state m)

  pub opens_nowhere : (bay : Bay M) → OpensAlone below bay (medium_in bay)
  opens_nowhere Empty = tt
  opens_nowhere (Unloaded m) = inl refl
  opens_nowhere (Loaded m) = tt

  -- a command of which no device fault came takes its step, where bay and keeper are not touched
  pub still_takes :
      (S : Result Reply Fault → Made → Machine → Type 0)
      → (old new : DriveState M K) (answer : Result Reply Fault) → IsFaultless answer
      → IsUntouched old new → S answer made_nothing (machine_of state kept new)
      → Takes state below kept keeps S old answer new
  still_takes S old new answer sound same step =
      record {
        made = made_nothing;
        step = step;
        advances = rw (same.bay, sound.medium) (advances_nowhere_in (medium_in old.bay));
        stores = rw same.bay (stores_nowhere_in old.bay);
        alone = rw same.bay (opens_nowhere old.bay);
        saves = rw (same.keeper, sound.keeper) (keeps_nowhere old.keeper);
        counted = same.accepted;
      }

  -- a condition that was reported is cleared in the machine as in the drive
  without_in_machine : (condition : Condition) (nexus : ℕ) (drive : DriveState M K)
      → machine_of state kept (without_condition condition nexus drive)
      ≡ without_condition condition nexus (machine_of state kept drive)
  without_in_machine DeferredError nexus drive = refl
  without_in_machine (UnitAttention attention) nexus drive = refl

  pub denied_in_machine : (denial : Denial) (nexus : ℕ) (drive : DriveState M K)
      → machine_of state kept (denied denial nexus drive) ≡ denied denial nexus (machine_of state kept drive)
  denied_in_machine (Refused sense) nexus drive = refl
  denied_in_machine (Reported condition) nexus drive = without_in_machine condition nexus drive
  denied_in_machine Conflict nexus drive = refl

  -- and bay and keeper are not touched
  without_untouched : (condition : Condition) (nexus : ℕ) (drive : DriveState M K)
      → IsUntouched drive (without_condition condition nexus drive)
  without_untouched DeferredError nexus drive = record { bay = refl; keeper = refl; accepted = refl }
  without_untouched (UnitAttention attention) nexus drive = record { bay = refl; keeper = refl; accepted = refl }

  denied_untouched : (denial : Denial) (nexus : ℕ) (drive : DriveState M K)
      → IsUntouched drive (denied denial nexus drive)
  denied_untouched (Refused sense) nexus drive = record { bay = refl; keeper = refl; accepted = refl }
  denied_untouched (Reported condition) nexus drive = without_untouched condition nexus drive
  denied_untouched Conflict nexus drive = record { bay = refl; keeper = refl; accepted = refl }

  -- a command that is denied takes its step
  pub denied_takes :
      (request : Request) (old new : DriveState M K) (denial : Denial)
      → verdict (machine_of state kept old) request ≡ Err denial → new ≡ denied denial request.nexus old
      → Takes state below kept keeps
      (Executes (HonestIn below (medium_in old.bay)) request (machine_of state kept old))
      old (Ok (denial_reply denial)) new
  denied_takes request old new denial judged left =
      still_takes (Executes (HonestIn below (medium_in old.bay)) request (machine_of state kept old)) old new
      (Ok (denial_reply denial)) (record { medium = refl; keeper = refl })
      (rw left (denied_untouched denial request.nexus old))
      (rw judged (
        refl,
        refl,
        ap (machine_of state kept) left ∙ denied_in_machine denial request.nexus old,
      ))

  -- and so does one that is carried out
  pub carried_out_takes :
      (request : Request) (old new : DriveState M K) (command : Command) (answer : Result Reply Fault)
      → verdict (machine_of state kept old) request ≡ Ok command
      → Takes state below kept keeps
      (Work (HonestIn below (medium_in old.bay)) command request.nexus request.sent (machine_of state kept old)) old
      answer new
      → Takes state below kept keeps
      (Executes (HonestIn below (medium_in old.bay)) request (machine_of state kept old)) old answer new
  carried_out_takes request old new command answer judged h =
      record {
        made = h.made;
        step = rw judged h.step;
        advances = h.advances;
        stores = h.stores;
        alone = h.alone;
        saves = h.saves;
        counted = h.counted;
      }

  -- by whether the command needs a medium
  pub work_takes :
      (H : Type 0) (needs : Bool) (command : Command) (nexus : ℕ) (sent : List ℕ) (old new : DriveState M K)
      (answer : Result Reply Fault) → needs_medium (code_of command) ≡ needs
      → Takes state below kept keeps (WorkBy needs H command nexus sent (machine_of state kept old)) old answer new
      → Takes state below kept keeps (Work H command nexus sent (machine_of state kept old)) old answer new
  work_takes H needs command nexus sent old new answer is h =
      record {
        made = h.made;
        step = rw is h.step;
        advances = h.advances;
        stores = h.stores;
        alone = h.alone;
        saves = h.saves;
        counted = h.counted;
      }

  pub gives_takes :
      (bytes : List ℕ) (old : DriveState M K) (answer : Result Reply Fault) → Gives bytes answer
      → Takes state below kept keeps (GivesData bytes (machine_of state kept old)) old answer old
  gives_takes bytes old answer given =
      still_takes (GivesData bytes (machine_of state kept old)) old old answer (gives_faultless bytes answer given)
      (record { bay = refl; keeper = refl; accepted = refl }) (given, refl, refl)

  -- sense data that is reported
  pub senses_takes :
      (room nexus : ℕ) (old new : DriveState M K) (answer : Result Reply Fault)
      → Gives (cut_to room (sense_bytes (sense_due (condition_due (machine_of state kept old) nexus)))) answer
      → IsUntouched old new → machine_of state kept new ≡ after_report answer nexus (machine_of state kept old)
      → Takes state below kept keeps (RequestSenseWork room nexus (machine_of state kept old)) old answer new
  senses_takes room nexus old new answer given same left =
      still_takes (RequestSenseWork room nexus (machine_of state kept old)) old new answer
      (gives_faultless (cut_to room (sense_bytes (sense_due (condition_due (machine_of state kept old) nexus))))
      answer given)
      same (given, refl, left)

  -- the drive once the condition that was due, if any, was cleared
  pub cleared_untouched : (due : Option Condition) (nexus : ℕ) (drive : DriveState M K)
      → IsUntouched drive (once_reported due nexus drive)
  cleared_untouched None nexus drive = record { bay = refl; keeper = refl; accepted = refl }
  cleared_untouched (Some condition) nexus drive = without_untouched condition nexus drive

  pub cleared_in_machine : (due : Option Condition) (nexus : ℕ) (drive : DriveState M K)
      → machine_of state kept (once_reported due nexus drive) ≡ once_reported due nexus (machine_of state kept drive)
  cleared_in_machine None nexus drive = refl
  cleared_in_machine (Some condition) nexus drive = without_in_machine condition nexus drive

  -- the work on a loaded medium is a step of the drive that it is in
  pub carried_takes :
      (W : MediumRelation) (S : Result Reply Fault → Made → Machine → Type 0)
      → (old : DriveState M K) (medium now : M) (position : Pos) (tally : ℕ) (answer : Result Reply Fault)
      → old.bay ≡ Loaded medium → is_keeper_fault answer ≡ false
      → Tallies state below W medium old.position old.accepted answer now position tally
      → ((made : Made)
      → OnMediumIn (Loaded (state medium)) W (machine_of state kept old) answer made
      (machine_of state kept (record old { bay = Loaded now; position = position; accepted = tally }))
      → S answer made (machine_of state kept (record old { bay = Loaded now; position = position; accepted = tally })))
      → Takes state below kept keeps S old answer
      (record old { bay = Loaded now; position = position; accepted = tally })
  carried_takes W S old medium now position tally answer in_bay sound tallies means =
      record {
        made = made_on_medium tallies.made;
        step =
            means (made_on_medium tallies.made) (mounted (state now) position, tallies.carries.work, refl, refl);
        advances = rw in_bay tallies.carries.advances;
        stores = rw in_bay tallies.carries.stores;
        alone = rw in_bay tt;
        saves = rw sound (keeps_nowhere old.keeper);
        counted = tallies.counted;
      }

-- another mode changes neither bay nor keeper, and the machine's is the drive's
module _ {M K : Type 0} (state : M → MediumState) (kept : K → KeeperState) where
  mode_untouched : (was asked : Bool) (nexus : ℕ) (drive : DriveState M K)
      → IsUntouched drive (in_mode was asked nexus drive)
  mode_untouched true true nexus drive = record { bay = refl; keeper = refl; accepted = refl }
  mode_untouched false false nexus drive = record { bay = refl; keeper = refl; accepted = refl }
  mode_untouched true false nexus drive = record { bay = refl; keeper = refl; accepted = refl }
  mode_untouched false true nexus drive = record { bay = refl; keeper = refl; accepted = refl }

  pub asked_untouched : (asked : Option Bool) (nexus : ℕ) (drive : DriveState M K)
      → IsUntouched drive (in_asked_mode asked nexus drive)
  asked_untouched None nexus drive = record { bay = refl; keeper = refl; accepted = refl }
  asked_untouched (Some buffered) nexus drive = mode_untouched drive.buffered buffered nexus drive

  mode_in_machine : (was asked : Bool) (nexus : ℕ) (drive : DriveState M K)
      → machine_of state kept (in_mode was asked nexus drive) ≡ in_mode was asked nexus (machine_of state kept drive)
  mode_in_machine true true nexus drive = refl
  mode_in_machine false false nexus drive = refl
  mode_in_machine true false nexus drive = refl
  mode_in_machine false true nexus drive = refl

  pub asked_in_machine : (asked : Option Bool) (nexus : ℕ) (drive : DriveState M K)
      → machine_of state kept (in_asked_mode asked nexus drive)
      ≡ in_asked_mode asked nexus (machine_of state kept drive)
  asked_in_machine None nexus drive = refl
  asked_in_machine (Some buffered) nexus drive = mode_in_machine drive.buffered buffered nexus drive
