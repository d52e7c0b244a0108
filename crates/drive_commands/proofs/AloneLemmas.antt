-- A request that was judged so is answered, with the disk or without it.
use Rattle.std.proofs.Common.{◌≡◌, ◌∙◌, ℕ, List, [], ◌∷◌, suc, Result, Ok, Err, Some, Bool, true, false, length, nat_lt, not, ◌&&◌, ◌||◌, refl, ap, subst, arith}
use Rattle.std.proofs.lemmas.Bool.Decides.{nat_tests}
use Rattle.vtl_base.specs.Below.{Below, Advances}
use Rattle.scsi_sense.specs.declared.replies.Reply.{Reply}
use Rattle.scsi_sense.specs.Senses.{insufficient_resources, keeper_failed, read_error, store_full, volume_overflow, write_error}
use Rattle.scsi_opcodes.specs.declared.commands.Command.{Command}
use Rattle.scsi_opcodes.specs.declared.commands.Command.TheVariants.{TestUnitReady, Rewind, RequestSense, ReadBlockLimits, Read, Write, WriteFilemarks, Space, Inquiry, Erase, Locate, ReadPosition, PersistentReserveIn, PersistentReserveOut, ModeSelect, ModeSense, LoadUnload}
use Rattle.scsi_opcodes.specs.Opcodes.{opcode_of}
use Rattle.pr_core.specs.declared.states.PrState.{PrState}
use Rattle.pr_core.specs.Keepers.{KeeperState}
use Rattle.volume_core.specs.declared.changes.Change.{Change}
use Rattle.volume_core.specs.Medium.{MediumState}
use Rattle.drive_commands.specs.declared.conditions.Denial.{Denial}
use Rattle.drive_commands.specs.declared.faults.Fault.{Fault}
use Rattle.drive_commands.specs.declared.faults.Fault.TheVariants.{NoMemory, Writing, Reading, SideFull, Saving, StoreFull}
use Rattle.drive_commands.specs.State.{Machine, DriveState, machine_of, medium_in}
use Rattle.drive_commands.specs.Faults.{reply_of}
use Rattle.drive_commands.specs.Relations.{Made}
use Rattle.drive_commands.specs.Conditions.{denial_reply, denied}
use Rattle.drive_commands.specs.Work.{Request, Work}
use Rattle.drive_commands.specs.Checks.{Executes, ExecutesAs, verdict}
use Rattle.drive_commands.specs.Synchronize.{synchronizes, IsSynchronizing, Acknowledges, NothingPending}
use Rattle.drive_commands.specs.Execute.{Answers, HonestIn}
use Rattle.drive_commands.specs.Data.{AnswersLent}
use Rattle.drive_commands.specs.Alone.{AnswersAlone, alone_in, needs_disk, needs_disk_as}
use Rattle.drive_commands.proofs.TakesLemmas.{denied_takes}
use Rattle.drive_commands.proofs.DataLemmas.{TakesLent, carried_out_lent, denied_stay}
use Rattle.drive_commands.proofs.SettledLemmas.{Judged, code_judged, settled, unacknowledged}

-- a number above 0
is_some : (n : ℕ) → nat_lt 0 (suc n) ≡ true
is_some n = grind (arith, nat_tests)

-- a WRITE of some bytes needs the disk in unbuffered mode
pub unbuffered_needs : (alone : ℕ → Bool) (buffered : Bool) (sent : List ℕ) (n : ℕ) → length sent ≡ n
    → (sent ≡ [] → ⊥) → buffered ≡ false → needs_disk alone buffered (Write n) ≡ true
unbuffered_needs alone buffered [] n counted some unbuffered = absurd (some refl)
unbuffered_needs alone true (byte ∷ bytes) n counted some unbuffered = cc
unbuffered_needs alone false (byte ∷ bytes) n counted some unbuffered =
    subst (λ (m : ℕ). needs_disk alone false (Write m) ≡ true) counted
    (ap (λ (b : Bool). b && true) (is_some (length bytes)))

-- and in either mode, where the medium does not take the block without it
pub roomless_needs : (alone : ℕ → Bool) (buffered : Bool) (sent : List ℕ) (n : ℕ) → length sent ≡ n
    → (sent ≡ [] → ⊥) → alone (length sent) ≡ false → needs_disk alone buffered (Write n) ≡ true
roomless_needs alone buffered [] n counted some not_alone = absurd (some refl)
roomless_needs alone true (byte ∷ bytes) n counted some not_alone =
    subst (λ (m : ℕ). needs_disk alone true (Write m) ≡ true) counted
    (ap (λ (b : Bool). b && not (alone (suc (length bytes)))) (is_some (length bytes)) ∙ ap not not_alone)
roomless_needs alone false (byte ∷ bytes) n counted some not_alone =
    subst (λ (m : ℕ). needs_disk alone false (Write m) ≡ true) counted
    (ap (λ (b : Bool). b && true) (is_some (length bytes)))

-- the work of each command that synchronizes needs the disk
marks_need : (alone : ℕ → Bool) (count : ℕ) (immediate : Bool) → not immediate ≡ true
    → (not immediate || (nat_lt 0 count && not (alone 0))) ≡ true
marks_need alone count true sure = cc
marks_need alone count false sure = refl

writes_need : (alone : ℕ → Bool) (buffered : Bool) (count : ℕ) → (not buffered && nat_lt 0 count) ≡ true
    → (nat_lt 0 count && (not buffered || not (alone count))) ≡ true
writes_need alone true count sure = cc
writes_need alone false count sure = ap (λ (b : Bool). b && true) sure

synchronizing_needs : (alone : ℕ → Bool) (machine : Machine) (command : Command)
    → synchronizes machine command ≡ true → needs_disk alone machine.buffered command ≡ true
synchronizing_needs alone machine TestUnitReady sure = cc
synchronizing_needs alone machine Rewind sure = refl
synchronizing_needs alone machine (RequestSense room) sure = cc
synchronizing_needs alone machine ReadBlockLimits sure = cc
synchronizing_needs alone machine (Read bytes suppress) sure = sure
synchronizing_needs alone machine (Write bytes) sure = writes_need alone machine.buffered bytes sure
synchronizing_needs alone machine (WriteFilemarks count immediate) sure = marks_need alone count immediate sure
synchronizing_needs alone machine (Space code count) sure = sure
synchronizing_needs alone machine (Inquiry room) sure = cc
synchronizing_needs alone machine Erase sure = refl
synchronizing_needs alone machine (Locate object part) sure = refl
synchronizing_needs alone machine ReadPosition sure = refl
synchronizing_needs alone machine (PersistentReserveIn action room) sure = cc
synchronizing_needs alone machine (PersistentReserveOut action bytes) sure = cc
synchronizing_needs alone machine (ModeSelect bytes) sure = cc
synchronizing_needs alone machine (ModeSense room bare) sure = cc
synchronizing_needs alone machine (LoadUnload load) sure = refl

-- no fault is acknowledged
fault_unacknowledged : (fault : Fault) → Acknowledges (reply_of (Err fault)) → ⊥
fault_unacknowledged NoMemory = unacknowledged insufficient_resources [] (λ e. cc)
fault_unacknowledged Writing = unacknowledged write_error [] (λ e. cc)
fault_unacknowledged Reading = unacknowledged read_error [] (λ e. cc)
fault_unacknowledged (SideFull residue) = unacknowledged (volume_overflow residue) [] (λ e. cc)
fault_unacknowledged Saving = unacknowledged keeper_failed [] (λ e. cc)
fault_unacknowledged StoreFull = unacknowledged store_full [] (λ e. cc)

module _ (H : Type 0) (old : Machine) (request : Request) (made : Made) (new : Machine) where
  settled_answer : (answer : Result Reply Fault) → Executes H request old answer made new
      → IsSynchronizing old request.cdb → Acknowledges (reply_of answer) → NothingPending H new
  settled_answer (Ok reply) h sure acknowledged = settled H old request reply made new h sure acknowledged
  settled_answer (Err fault) h sure acknowledged = absurd (fault_unacknowledged fault acknowledged)

  -- a synchronizing command whose request needs no disk is denied, which acknowledges nothing
  unacknowledged_as : (alone : ℕ → Bool) (answer : Result Reply Fault) (judged : Result Command Denial)
      → Judged request judged → needs_disk_as alone old.buffered judged ≡ false
      → ExecutesAs H judged request old answer made new → IsSynchronizing old request.cdb
      → Acknowledges (reply_of answer) → ⊥
  unacknowledged_as alone answer (Err denial) never calm h sure acknowledged =
      never (subst (λ (a : Result Reply Fault). Acknowledges (reply_of a)) h.0 acknowledged)
  unacknowledged_as alone answer (Ok command) is calm h sure acknowledged =
      let needs = synchronizing_needs alone old command (rw is.0 at sure) in cc (needs, calm)

module _ {M K : Type 0}
    (state : M → MediumState) (below : Below M Change) (kept : K → KeeperState) (keeps : Below K PrState) where
  -- an answer that acknowledges a synchronizing command leaves nothing pending
  pub answers_settled : (old new : DriveState M K) (request : Request) (reply : Reply)
      → Answers state below kept keeps old request reply new
      → IsSynchronizing (machine_of state kept old) request.cdb → Acknowledges reply
      → NothingPending (HonestIn below (medium_in old.bay)) (machine_of state kept new)
  answers_settled old new request reply answers sure acknowledged =
      settled_answer (HonestIn below (medium_in old.bay)) (machine_of state kept old) request answers.taken.made
      (machine_of state kept new) answers.answer answers.taken.step sure
      (subst (λ (r : Reply). Acknowledges r) answers.replied acknowledged)

  -- and one without the disk acknowledges none
  pub alone_unacknowledged : (alone : M → ℕ → Bool) (old new : DriveState M K) (request : Request) (reply : Reply)
      (left : List ℕ) → AnswersAlone state kept alone below keeps old request (Some reply) new left
      → IsSynchronizing (machine_of state kept old) request.cdb → Acknowledges reply → ⊥
  alone_unacknowledged alone old new request reply left answers sure acknowledged =
      let machine = machine_of state kept old in
      let step = answers.1.step in
      unacknowledged_as (HonestIn below (medium_in old.bay)) machine request step.taken.made
      (machine_of state kept new) (alone_in alone old.bay) step.answer (verdict machine request)
      (code_judged machine request (opcode_of request.cdb) refl) answers.0 step.taken.step sure
      (subst (λ (r : Reply). Acknowledges r) step.replied acknowledged)

module _ {M K : Type 0}
    (state : M → MediumState) (below : Below M Change) (kept : K → KeeperState) (keeps : Below K PrState)
    (nowhere : (m : M) → Advances below m [] false m) (keeps_nowhere : (k : K) → Advances keeps k [] false k)
    (request : Request) (old new : DriveState M K) where
  -- a command that passes its checks is answered by what is carried out
  pub carried_answers : (command : Command) (answer : Result Reply Fault) (reply : Reply) (left : List ℕ)
      → verdict (machine_of state kept old) request ≡ Ok command → reply ≡ reply_of answer
      → TakesLent state below kept keeps keeps_nowhere
      (Work (HonestIn below (medium_in old.bay)) command request.nexus request.sent (machine_of state kept old)) old
      answer new request.sent left
      → AnswersLent state below kept keeps old request reply new left
  carried_answers command answer reply left judged replied takes =
      let lent =
      carried_out_lent state below kept keeps keeps_nowhere request old new command answer left judged takes in
      record { step = record { answer = answer; replied = replied; taken = lent.0 }; data_is = lent.1 }

  -- and one that is denied by that, with its data left
  pub denied_answers : (denial : Denial) (reply : Reply)
      → verdict (machine_of state kept old) request ≡ Err denial → reply ≡ denial_reply denial
      → new ≡ denied denial request.nexus old
      → AnswersLent state below kept keeps old request reply new request.sent
  denied_answers denial reply judged replied left =
      let takes = denied_takes state below kept keeps nowhere keeps_nowhere request old new denial judged left in
      record {
        step = record { answer = Ok (denial_reply denial); replied = replied; taken = takes };
        data_is =
            denied_stay (HonestIn below (medium_in old.bay)) request denial (machine_of state kept old)
            (Ok (denial_reply denial)) takes.made (machine_of state kept new) judged takes.step;
      }
