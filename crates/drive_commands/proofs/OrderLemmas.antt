-- An order to the reservations is a step of the drive.
use Rattle.std.proofs.Common.{◌≡◌, ℕ, List, [], Result, Ok, Err, true, false, refl, subst}
use Rattle.vtl_base.specs.Below.{Below, Advances}
use Rattle.scsi_attention.specs.AttentionSets.{AttentionSet}
use Rattle.scsi_sense.specs.declared.replies.Reply.{Reply}
use Rattle.scsi_lists.specs.declared.pr_lists.PrOut.{PrOut}
use Rattle.pr_core.specs.declared.states.PrState.{PrState}
use Rattle.pr_core.specs.declared.states.PrAnswer.{PrAnswer}
use Rattle.pr_core.specs.declared.keepers.KeeperError.{KeeperError}
use Rattle.pr_core.specs.declared.keepers.KeeperError.TheVariants as keepers
use Rattle.pr_core.specs.Orders.{Orders}
use Rattle.pr_core.specs.Saves.{needs_save}
use Rattle.pr_core.specs.Keepers.{KeeperState, Saves, save_met_fault, saved_by}
use Rattle.volume_core.specs.declared.changes.Change.{Change}
use Rattle.volume_core.specs.Medium.{MediumState}
use Rattle.drive_commands.specs.declared.faults.Fault.{Fault}
use Rattle.drive_commands.specs.State.{DriveState, machine_of, medium_in}
use Rattle.drive_commands.specs.ReserveOut.{OrderWork, fault_of_save, made_by_save, order_reply, ordered}
use Rattle.drive_commands.specs.Execute.{Takes, is_device_fault, is_keeper_fault}
use Rattle.drive_commands.proofs.TakesLemmas.{advances_nowhere_in, opens_nowhere, still_takes, stores_nowhere_in}

-- a save's fault is the keeper's, and none of the medium
no_device_fault : (error : KeeperError) → is_device_fault {R = Reply} (Err (fault_of_save error)) ≡ false
no_device_fault keepers.NoMemory = refl
no_device_fault keepers.SideFull = refl
no_device_fault keepers.Device = refl
no_device_fault keepers.Failed = refl

keeper_fault : (old : KeeperState) (state : PrState) (error : KeeperError) (new : KeeperState) → old.failed ≡ false
    → Saves old state (Err error) new
    → is_keeper_fault {R = Reply} (Err (fault_of_save error)) ≡ save_met_fault (Err error)
keeper_fault old state keepers.NoMemory new works h = refl
keeper_fault old state keepers.SideFull new works h = refl
keeper_fault old state keepers.Device new works h = refl
keeper_fault old state keepers.Failed new works h = cc (works, h.0)

module _ {M K : Type 0}
    (state : M → MediumState) (below : Below M Change) (kept : K → KeeperState) (keeps : Below K PrState)
    (nowhere : (m : M) → Advances below m [] false m) (keeps_nowhere : (k : K) → Advances keeps k [] false k)
    (order : PrOut) (nexus : ℕ) (old : DriveState M K) (brought : PrAnswer) (established : List AttentionSet)
    (left : PrState)
    (orders : Orders old.reservations nexus order brought established left) where
  -- one that needs no save stands
  pub unsaved_takes : needs_save old.reservations left ≡ false
      → Takes state below kept keeps (OrderWork order nexus (machine_of state kept old)) old (Ok (order_reply brought))
      (ordered old left established)
  unsaved_takes due =
      still_takes state below kept keeps nowhere keeps_nowhere (OrderWork order nexus (machine_of state kept old)) old
      (ordered old left established) (Ok (order_reply brought)) (record { medium = refl; keeper = refl })
      (record { bay = refl; keeper = refl; accepted = refl })
      (brought, established, left, orders, rw due (refl, refl, refl))

  module _ (keeper : K) (due : needs_save old.reservations left ≡ true) where
    -- one that was saved stands
    pub saved_takes : Saves (kept old.keeper) left (Ok tt) (kept keeper)
        → Advances keeps old.keeper (saved_by (Ok tt) left) false keeper
        → Takes state below kept keeps (OrderWork order nexus (machine_of state kept old)) old
        (Ok (order_reply brought)) (ordered (record old { keeper = keeper }) left established)
    saved_takes saves advances =
        record {
          made = made_by_save (saved_by (Ok tt) left);
          step = (brought, established, left, orders, rw due (Ok tt, kept keeper, saves, (refl, refl), refl));
          advances = advances_nowhere_in state below kept keeps nowhere keeps_nowhere (medium_in old.bay);
          stores = stores_nowhere_in state below kept keeps nowhere keeps_nowhere old.bay;
          alone = opens_nowhere state below kept keeps nowhere keeps_nowhere old.bay;
          saves = advances;
          counted = refl;
        }

    -- and one that was not saved does not
    pub refused_takes : (error : KeeperError) → (kept old.keeper).failed ≡ false
        → Saves (kept old.keeper) left (Err error) (kept keeper)
        → Advances keeps old.keeper (saved_by (Err error) left) (save_met_fault (Err error)) keeper
        → Takes state below kept keeps (OrderWork order nexus (machine_of state kept old)) old
        (Err (fault_of_save error)) (record old { keeper = keeper })
    refused_takes error works saves advances =
        record {
          made = made_by_save (saved_by (Err error) left);
          step = (brought, established, left, orders, rw due (Err error, kept keeper, saves, (refl, refl), refl));
          advances =
              rw (no_device_fault error)
              (advances_nowhere_in state below kept keeps nowhere keeps_nowhere (medium_in old.bay));
          stores = stores_nowhere_in state below kept keeps nowhere keeps_nowhere old.bay;
          alone = opens_nowhere state below kept keeps nowhere keeps_nowhere old.bay;
          saves = rw (keeper_fault (kept old.keeper) left error (kept keeper) works saves) advances;
          counted = refl;
        }

-- the same of a drive that is equal to it
pub takes_from : {M K : Type 0}
    (state : M → MediumState) (below : Below M Change) (kept : K → KeeperState) (keeps : Below K PrState)
    (order : PrOut) (nexus : ℕ) (old now : DriveState M K) (answer : Result Reply Fault) (new : DriveState M K)
    → old ≡ now → Takes state below kept keeps (OrderWork order nexus (machine_of state kept old)) old answer new
    → Takes state below kept keeps (OrderWork order nexus (machine_of state kept now)) now answer new
takes_from {M} {K} state below kept keeps order nexus old now answer new same h =
    subst
    (λ (d : DriveState M K). Takes state below kept keeps (OrderWork order nexus (machine_of state kept d)) d answer
    new)
    same h
