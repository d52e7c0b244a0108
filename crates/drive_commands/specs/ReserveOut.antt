-- PERSISTENT RESERVE OUT.
use Rattle.std.specs.Prelude.{◌≡◌, ℕ, List, [], Bool, true, false, Result, Ok, Err}
use Rattle.scsi_attention.specs.AttentionSets.{AttentionSet}
use Rattle.scsi_attention.specs.Attentions.{established_by}
use Rattle.scsi_sense.specs.declared.replies.Reply.{Reply}
use Rattle.scsi_sense.specs.declared.sense_data.Sense.{Sense}
use Rattle.scsi_sense.specs.Replies.{good_with, check_with, conflict}
use Rattle.scsi_sense.specs.Senses.{invalid_field, invalid_parameter, invalid_release, keeper_failed}
use Rattle.scsi_lists.specs.declared.actions.PrAction.{PrAction}
use Rattle.scsi_lists.specs.declared.pr_lists.PrOut.{PrOut}
use Rattle.scsi_lists.specs.PrLists.{list_decoded}
use Rattle.pr_core.specs.declared.states.PrState.{PrState}
use Rattle.pr_core.specs.declared.states.PrAnswer.{PrAnswer}
use Rattle.pr_core.specs.declared.states.PrAnswer.TheVariants.{Good, Conflict, BadType, BadKey, BadRelease}
use Rattle.pr_core.specs.declared.keepers.KeeperError.{KeeperError}
use Rattle.pr_core.specs.declared.keepers.KeeperError.TheVariants as keepers
use Rattle.pr_core.specs.Orders.{Orders}
use Rattle.pr_core.specs.Saves.{needs_save}
use Rattle.pr_core.specs.Keepers.{KeeperState, Saves, saved_by}
use Rattle.drive_commands.specs.declared.faults.Fault.{Fault}
use Rattle.drive_commands.specs.declared.faults.Fault.TheVariants.{NoMemory, Saving, StoreFull}
use Rattle.drive_commands.specs.State.{Machine, DriveState}
use Rattle.drive_commands.specs.Relations.{Made, MachineRelation, made_nothing}

-- the reply to an order that was answered so (SPC-4, PERSISTENT RESERVE OUT)
abbrev pub order_reply : PrAnswer → Reply
order_reply Good = good_with []
order_reply Conflict = conflict
order_reply BadType = check_with invalid_field []
order_reply BadKey = check_with invalid_parameter []
order_reply BadRelease = check_with invalid_release []

-- A drive once an order was carried out: these are its reservations, and these conditions are established, each for its
-- nexus (SPC-4, PERSISTENT RESERVE OUT, unit attention conditions).
abbrev pub ordered : {M K : Type 0} → DriveState M K → PrState → List AttentionSet → DriveState M K
ordered drive reservations established =
    record drive { reservations = reservations; attentions = established_by drive.attentions established }

-- the fault that a refusal of a save is; one that failed earlier is asked for no save (own)
abbrev pub fault_of_save : KeeperError → Fault
fault_of_save keepers.NoMemory = NoMemory
fault_of_save keepers.SideFull = StoreFull
fault_of_save keepers.Device = Saving
fault_of_save keepers.Failed = Saving

-- the states that a save may have stored are made, and nothing of the medium (own)
abbrev pub made_by_save : List PrState → Made
made_by_save states = record { changes = []; saved = states }

-- The keeper was asked to save; this is its result, and this is the keeper now. Where it saved, the order stands; else
-- the fault comes, and the old reservations stand (own).
abbrev pub StandsOnceSaved :
    Result Unit KeeperError → KeeperState → PrAnswer → PrState → List AttentionSet → Machine
    → Result Reply Fault → Machine → Type 0
StandsOnceSaved (Ok done) keeper brought state established old answer new =
    (answer ≡ Ok (order_reply brought)) × (new ≡ ordered (record old { keeper = keeper }) state established)
StandsOnceSaved (Err error) keeper brought state established old answer new =
    (answer ≡ Err (fault_of_save error)) × (new ≡ record old { keeper = keeper })

-- An order had this outcome. Where a save is due, the keeper is called first, else the order stands (SPC-4, persist
-- through power loss; the outcomes of a save own).
abbrev pub StandsBy :
    Bool → PrAnswer → PrState → List AttentionSet → MachineRelation
StandsBy false brought state established old answer made new =
    (answer ≡ Ok (order_reply brought)) × (made ≡ made_nothing) × (new ≡ ordered old state established)
StandsBy true brought state established old answer made new =
    (saving : Result Unit KeeperError) × (keeper : KeeperState)
    × Saves old.keeper state saving keeper × StandsOnceSaved saving keeper brought state established old answer new
    × (made ≡ made_by_save (saved_by saving state))

-- an order of a nexus is carried out: it is saved before it is answered, where what is saved has changed
-- (SPC-4, PERSISTENT RESERVE OUT, persist through power loss)
abbrev pub OrderWork : PrOut → ℕ → MachineRelation
OrderWork order nexus old answer made new =
    (brought : PrAnswer) × (established : List AttentionSet) × (state : PrState)
    × Orders old.reservations nexus order brought established state
    × StandsBy (needs_save old.reservations state) brought state established old answer made new

-- by whether the keeper has failed: then no order is carried out (own)
abbrev pub OrderUnlessFailed : Bool → PrOut → ℕ → MachineRelation
OrderUnlessFailed true order nexus old answer made new =
    (answer ≡ Ok (check_with keeper_failed [])) × (made ≡ made_nothing) × (new ≡ old)
OrderUnlessFailed false order nexus old answer made new = OrderWork order nexus old answer made new

-- by what the parameter list says: it is refused, or orders something (SPC-4, PERSISTENT RESERVE OUT)
abbrev pub OrderOf : Result PrOut Sense → ℕ → MachineRelation
OrderOf (Err sense) nexus old answer made new =
    (answer ≡ Ok (check_with sense [])) × (made ≡ made_nothing) × (new ≡ old)
OrderOf (Ok order) nexus old answer made new =
    OrderUnlessFailed old.keeper.failed order nexus old answer made new

-- the parameter list that a nexus sent is read, and its order is carried out (SPC-4, PERSISTENT RESERVE OUT; that a
-- failed keeper answers before the machine is asked, own)
abbrev pub ReserveOutWork : PrAction → ℕ → List ℕ → MachineRelation
ReserveOutWork action nexus sent old answer made new =
    OrderOf (list_decoded action sent) nexus old answer made new
