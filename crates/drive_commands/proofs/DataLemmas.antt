-- What is left of data that were lent with a command.
use Rattle.std.proofs.Common.{◌≡◌, ℕ, List, [], ◌∷◌, Result, Ok, Err, false, length, refl, sym, ap}
use Rattle.vtl_base.specs.Below.{Below, Advances}
use Rattle.scsi_sense.specs.declared.replies.Reply.{Reply}
use Rattle.scsi_lists.specs.ModeLists.{mode_decoded}
use Rattle.scsi_lists.specs.PrLists.{list_decoded}
use Rattle.scsi_opcodes.specs.declared.commands.Command.{Command}
use Rattle.scsi_opcodes.specs.declared.commands.Command.TheVariants.{TestUnitReady, Rewind, RequestSense, ReadBlockLimits, Read, Write, WriteFilemarks, Space, Inquiry, Erase, Locate, ReadPosition, PersistentReserveIn, PersistentReserveOut, ModeSelect, ModeSense, LoadUnload}
use Rattle.scsi_opcodes.specs.Commands.{sent_length}
use Rattle.pr_core.specs.declared.states.PrState.{PrState}
use Rattle.pr_core.specs.Keepers.{KeeperState}
use Rattle.volume_core.specs.declared.changes.Change.{Change}
use Rattle.volume_core.specs.Medium.{MediumState}
use Rattle.positioning.specs.declared.positions.Pos.{Pos}
use Rattle.drive_commands.specs.declared.bays.Bay.TheVariants.{Loaded}
use Rattle.drive_commands.specs.declared.conditions.Denial.{Denial}
use Rattle.drive_commands.specs.declared.faults.Fault.{Fault}
use Rattle.drive_commands.specs.State.{Machine, DriveState, machine_of, medium_in, mounted}
use Rattle.drive_commands.specs.Relations.{Made, MediumRelation, made_on_medium}
use Rattle.drive_commands.specs.OnMedium.{OnMediumIn}
use Rattle.drive_commands.specs.Work.{Request, Work}
use Rattle.drive_commands.specs.Checks.{Executes, verdict}
use Rattle.drive_commands.specs.Execute.{HonestIn, Takes, is_keeper_fault}
use Rattle.drive_commands.specs.Data.{data_left}
use Rattle.drive_commands.specs.Inner.Carries.{Tallies}
use Rattle.drive_commands.proofs.QuietLemmas.{list_quiet, mode_quiet, unmade}

-- where no change is made all are left
unchanged_stays : (changes : List Change) (sent : List ℕ) → changes ≡ [] → sent ≡ data_left changes sent
unchanged_stays changes sent none = ap (λ (c : List Change). data_left c sent) (sym none)

none_left : (changes : List Change) → [] ≡ data_left changes []
none_left [] = refl
none_left (change ∷ changes) = refl

-- of no byte none is left
empty_stays : (changes : List Change) (sent : List ℕ) → length sent ≡ 0 → sent ≡ data_left changes sent
empty_stays changes [] none = none_left changes
empty_stays changes (byte ∷ bytes) none = cc

-- a command that is no WRITE leaves all of its data
pub data_stay : (H : Type 0) (command : Command) (nexus : ℕ) (sent : List ℕ) (old : Machine)
    (answer : Result Reply Fault) (made : Made) (new : Machine) → ((bytes : ℕ) → command ≡ Write bytes → ⊥)
    → length sent ≡ sent_length command → Work H command nexus sent old answer made new
    → sent ≡ data_left made.changes sent
data_stay H TestUnitReady nexus sent old answer made new other counted work = empty_stays made.changes sent counted
data_stay H Rewind nexus sent old answer made new other counted work = empty_stays made.changes sent counted
data_stay H (RequestSense room) nexus sent old answer made new other counted work =
    empty_stays made.changes sent counted
data_stay H ReadBlockLimits nexus sent old answer made new other counted work = empty_stays made.changes sent counted
data_stay H (Read bytes suppress) nexus sent old answer made new other counted work =
    empty_stays made.changes sent counted
data_stay H (Write bytes) nexus sent old answer made new other counted work = absurd (other bytes refl)
data_stay H (WriteFilemarks count immediate) nexus sent old answer made new other counted work =
    empty_stays made.changes sent counted
data_stay H (Space code count) nexus sent old answer made new other counted work =
    empty_stays made.changes sent counted
data_stay H (Inquiry room) nexus sent old answer made new other counted work = empty_stays made.changes sent counted
data_stay H Erase nexus sent old answer made new other counted work = empty_stays made.changes sent counted
data_stay H (Locate object part) nexus sent old answer made new other counted work =
    empty_stays made.changes sent counted
data_stay H ReadPosition nexus sent old answer made new other counted work = empty_stays made.changes sent counted
data_stay H (PersistentReserveIn action room) nexus sent old answer made new other counted work =
    empty_stays made.changes sent counted
data_stay H (PersistentReserveOut action bytes) nexus sent old answer made new other counted work =
    unchanged_stays made.changes sent (list_quiet old answer made new (list_decoded action sent) nexus work)
data_stay H (ModeSelect bytes) nexus sent old answer made new other counted work =
    unchanged_stays made.changes sent (mode_quiet old answer made new (mode_decoded sent) nexus work)
data_stay H (ModeSense room bare) nexus sent old answer made new other counted work =
    empty_stays made.changes sent counted
data_stay H (LoadUnload load) nexus sent old answer made new other counted work =
    empty_stays made.changes sent counted

-- one that is denied does too
pub denied_stay : (H : Type 0) (request : Request) (denial : Denial) (old : Machine)
    (answer : Result Reply Fault) (made : Made) (new : Machine) → verdict old request ≡ Err denial
    → Executes H request old answer made new → request.sent ≡ data_left made.changes request.sent
denied_stay H request denial old answer made new judged work =
    let nothing = rw judged at work in unchanged_stays made.changes request.sent (unmade made nothing.1)

module _ {M K : Type 0}
    (state : M → MediumState) (below : Below M Change) (kept : K → KeeperState) (keeps : Below K PrState)
    (keeps_nowhere : (k : K) → Advances keeps k [] false k) where
  -- what is left of data once a drive has taken a step
  abbrev pub TakesLent :
      (Result Reply Fault → Made → Machine → Type 0) → DriveState M K → Result Reply Fault → DriveState M K
      → List ℕ → List ℕ → Type 0
  TakesLent S old answer new sent left =
      (takes : Takes state below kept keeps S old answer new) × (left ≡ data_left takes.made.changes sent)

  -- the work on a loaded medium is a step of the drive that it is in, and takes the same data
  pub carried_lent :
      (W : MediumRelation) (S : Result Reply Fault → Made → Machine → Type 0)
      → (old : DriveState M K) (medium now : M) (position : Pos) (tally : ℕ) (answer : Result Reply Fault)
      (sent left : List ℕ)
      → old.bay ≡ Loaded medium → is_keeper_fault answer ≡ false
      → (tallies : Tallies state below W medium old.position old.accepted answer now position tally)
      → left ≡ data_left tallies.made sent
      → ((made : Made)
      → OnMediumIn (Loaded (state medium)) W (machine_of state kept old) answer made
      (machine_of state kept (record old { bay = Loaded now; position = position; accepted = tally }))
      → S answer made (machine_of state kept (record old { bay = Loaded now; position = position; accepted = tally })))
      → TakesLent S old answer (record old { bay = Loaded now; position = position; accepted = tally }) sent left
  carried_lent W S old medium now position tally answer sent left in_bay sound tallies data_is means = (
    record {
      made = made_on_medium tallies.made;
      step = means (made_on_medium tallies.made) (mounted (state now) position, tallies.carries.work, refl, refl);
      advances = rw in_bay tallies.carries.advances;
      stores = rw in_bay tallies.carries.stores;
      alone = rw in_bay tt;
      saves = rw sound (keeps_nowhere old.keeper);
      counted = tallies.counted;
    },
    data_is,
  )

  -- a command that passes its checks is carried out
  pub carried_out_lent :
      (request : Request) (old new : DriveState M K) (command : Command) (answer : Result Reply Fault) (left : List ℕ)
      → verdict (machine_of state kept old) request ≡ Ok command
      → TakesLent
      (Work (HonestIn below (medium_in old.bay)) command request.nexus request.sent (machine_of state kept old)) old
      answer new request.sent left
      → TakesLent (Executes (HonestIn below (medium_in old.bay)) request (machine_of state kept old)) old answer new
      request.sent left
  carried_out_lent request old new command answer left judged h = (
    record {
      made = h.0.made;
      step = rw judged h.0.step;
      advances = h.0.advances;
      stores = h.0.stores;
      alone = h.0.alone;
      saves = h.0.saves;
      counted = h.0.counted;
    },
    h.1,
  )
