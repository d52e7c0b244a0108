-- What a reply shows of the changes that were made with it, command by command.
use Rattle.std.proofs.Common.{◌≡◌, ◌≤◌, ◌⊎◌, ℕ, zero, suc, List, [], ◌∷◌, Option, None, Some, Result, Ok, Err, Bool, true, false, length, nat_lt, not, IsOkAnd, refl, sym, ◌∙◌, ap, subst, inl, inr, arith}
use Rattle.std.proofs.lemmas.Bool.Decides.{nat_tests}
use Rattle.vtl_base.specs.Below.{Below}
use Rattle.scsi_sense.specs.declared.replies.Reply.{Reply}
use Rattle.scsi_sense.specs.declared.sense_data.Sense.{Sense}
use Rattle.scsi_sense.specs.Senses.{insufficient_resources, volume_overflow, write_error}
use Rattle.scsi_opcodes.specs.declared.commands.Command.{Command}
use Rattle.scsi_opcodes.specs.declared.commands.Command.TheVariants.{TestUnitReady, Rewind, RequestSense, ReadBlockLimits, Read, Write, WriteFilemarks, Space, Inquiry, Erase, Locate, ReadPosition, PersistentReserveIn, PersistentReserveOut, ModeSelect, ModeSense, LoadUnload}
use Rattle.scsi_opcodes.specs.Commands.{decoded, sent_length}
use Rattle.scsi_opcodes.specs.Opcodes.{opcode_of}
use Rattle.scsi_lists.specs.ModeLists.{mode_decoded}
use Rattle.scsi_lists.specs.PrLists.{list_decoded}
use Rattle.pr_core.specs.declared.states.PrState.{PrState}
use Rattle.pr_core.specs.Keepers.{KeeperState}
use Rattle.volume_core.specs.declared.changes.Change.{Change}
use Rattle.volume_core.specs.declared.changes.Refusal.{Refusal}
use Rattle.volume_core.specs.declared.changes.Refusal.TheVariants.{NoPartition, PastEnd, NoRoom, TooLong}
use Rattle.volume_core.specs.Volume.{changed, refusal_of}
use Rattle.volume_core.specs.Medium.{MediumState}
use Rattle.drive_commands.specs.declared.bays.Bay.{Bay}
use Rattle.drive_commands.specs.declared.bays.Bay.TheVariants.{Empty, Unloaded, Loaded}
use Rattle.drive_commands.specs.declared.conditions.Denial.{Denial}
use Rattle.drive_commands.specs.declared.faults.Fault.{Fault}
use Rattle.drive_commands.specs.declared.faults.Fault.TheVariants.{NoMemory, Writing, Reading, SideFull, Saving, StoreFull}
use Rattle.drive_commands.specs.State.{Machine, DriveState, Mounted, contents_of, machine_of, medium_in, mounted}
use Rattle.drive_commands.specs.Relations.{Idles, Made, MediumRelation, made_nothing}
use Rattle.drive_commands.specs.Faults.{reply_of}
use Rattle.drive_commands.specs.Conditions.{denial_reply}
use Rattle.drive_commands.specs.Append.{AppendAnswer, AppendFails, AppendWork, LacksRoom, amount_of, behind, done_reply, is_warned}
use Rattle.drive_commands.specs.Write.{WriteWork, put_at}
use Rattle.drive_commands.specs.Marks.{MarksWork, marks_at}
use Rattle.drive_commands.specs.Erase.{EraseWork, Erases, erase_at}
use Rattle.drive_commands.specs.Rewind.{partition_start}
use Rattle.drive_commands.specs.Space.{is_over_nothing}
use Rattle.drive_commands.specs.Locate.{LocateMotion}
use Rattle.drive_commands.specs.StoredFirst.{GoesTo, StoredFirst}
use Rattle.drive_commands.specs.Giving.{GivesPosition}
use Rattle.drive_commands.specs.OnMedium.{OnMediumIn}
use Rattle.drive_commands.specs.Work.{MediumWork, Request, Work}
use Rattle.drive_commands.specs.Checks.{Executes, ExecutesAs, verdict}
use Rattle.drive_commands.specs.Synchronize.{Acknowledges}
use Rattle.drive_commands.specs.Execute.{Answers, HonestIn}
use Rattle.drive_commands.specs.ShownChanges.{IsChanging, RepliesShowChanges, ShowsChanges, ShowsWriteError, changes_medium}
use Rattle.drive_commands.proofs.QuietLemmas.{goes_quiet, idles_quiet, list_quiet, load_unload_quiet, locate_quiet, mode_quiet, read_quiet, space_quiet, stored_quiet, unmade}
use Rattle.drive_commands.proofs.SettledLemmas.{Judged, code_judged, lacks_unacknowledged, unacknowledged}

-- A command that changes the medium made none, and is not acknowledged; or it made one, and the reply shows that, or a
-- write error.
abbrev Appends : Reply → List Change → Type 0
Appends reply made =
    ((made ≡ []) × (Acknowledges reply → ⊥)) ⊎ ((length made ≡ 1) × (Acknowledges reply ⊎ ShowsWriteError reply))

-- the same of any command: it made none, and is none that changes the medium, or is not acknowledged
abbrev Outcome : Command → Reply → List Change → Type 0
Outcome command reply made =
    ((made ≡ []) × (changes_medium command ≡ true → Acknowledges reply → ⊥))
    ⊎ ((length made ≡ 1) × (changes_medium command ≡ true) × (Acknowledges reply ⊎ ShowsWriteError reply))

changing : (command : Command) (reply : Reply) (made : List Change) → changes_medium command ≡ true
    → Appends reply made → Outcome command reply made
changing command reply made is (inl none) = inl (none.0, λ so. none.1)
changing command reply made is (inr one) = inr (one.0, is, one.1)

unchanging : (command : Command) (reply : Reply) (made : List Change) → changes_medium command ≡ false → made ≡ []
    → Outcome command reply made
unchanging command reply made is none = inl (none, λ so acknowledged. cc (is, so))

-- GOOD and an early warning acknowledge
done_acknowledges : (warned : Bool) → Acknowledges (done_reply warned)
done_acknowledges true = inr (refl, (refl, refl, refl, refl))
done_acknowledges false = inl refl

lacks_shown : (amount : Option ℕ) (old : Mounted) (reply : Reply) (made : List Change) (new : Mounted)
    → LacksRoom amount old reply made new → Appends reply made
lacks_shown None old reply made new work = absurd work
lacks_shown (Some amount) old reply made new work =
    inl (work.1, lacks_unacknowledged (Some amount) old reply made new work)

-- a change at the position, where no fault came
answer_shown : (cause : Option Refusal) (settles : Bool) (change : Change) (old : Mounted) (reply : Reply)
    (made : List Change) (new : Mounted) → AppendAnswer cause settles change old reply made new → Appends reply made
answer_shown None settles change old reply made new work =
    inr (
      ap (λ (changes : List Change). length changes) work.1,
      inl (subst (λ (r : Reply). Acknowledges r) (sym work.0)
          (done_acknowledges
          (is_warned (amount_of change) (changed (contents_of old) change) (behind change old.position)))),
    )
answer_shown (Some NoRoom) settles change old reply made new work =
    lacks_shown (amount_of change) old reply made new work
answer_shown (Some NoPartition) settles change old reply made new work = absurd work
answer_shown (Some PastEnd) settles change old reply made new work = absurd work
answer_shown (Some TooLong) settles change old reply made new work = absurd work

-- and where the device failed
fails_shown : (settles : Bool) (change : Change) (old : Mounted) (made : List Change) (new : Mounted)
    → AppendFails settles change old made new → Appends (reply_of (Err Writing)) made
fails_shown settles change old made new (inl before) = inl (before.0, unacknowledged write_error [] (λ e. cc))
fails_shown settles change old made new (inr behind) =
    inr (ap (λ (changes : List Change). length changes) behind.1, inr (refl, (refl, refl, refl, refl)))

append_shown : (settles : Bool) (change : Change) (old : Mounted) (answer : Result Reply Fault) (made : List Change)
    (new : Mounted) → AppendWork settles change old answer made new → Appends (reply_of answer) made
append_shown settles change old (Ok reply) made new work =
    answer_shown (refusal_of (contents_of old) change) settles change old reply made new work
append_shown settles change old (Err NoMemory) made new work =
    inl (work.1, unacknowledged insufficient_resources [] (λ e. cc))
append_shown settles change old (Err (SideFull residue)) made new work =
    inl (work.2, unacknowledged (volume_overflow residue) [] (λ e. cc))
append_shown settles change old (Err Writing) made new work = fails_shown settles change old made new work.1
append_shown settles change old (Err Reading) made new work = absurd work
append_shown settles change old (Err Saving) made new work = absurd work
append_shown settles change old (Err StoreFull) made new work = absurd work

-- a number above 0
is_some : (n : ℕ) → nat_lt 0 (suc n) ≡ true
is_some n = grind (arith, nat_tests)

module _ (old : Mounted) (answer : Result Reply Fault) (made : List Change) (new : Mounted) where
  -- WRITE
  write_shown : (asked : ℕ) (buffered : Bool) (sent : List ℕ) → length sent ≡ asked
      → WriteWork buffered sent old answer made new → Outcome (Write asked) (reply_of answer) made
  write_shown asked buffered [] counted work =
      unchanging (Write asked) (reply_of answer) made (ap (λ (n : ℕ). nat_lt 0 n) (sym counted)) work.1
  write_shown asked buffered (byte ∷ bytes) counted work =
      changing (Write asked) (reply_of answer) made
      (ap (λ (n : ℕ). nat_lt 0 n) (sym counted) ∙ is_some (length bytes))
      (append_shown (not buffered) (put_at old.position (byte ∷ bytes)) old answer made new work)

  -- WRITE FILEMARKS
  marks_shown : (count : ℕ) (immediate : Bool) → MarksWork count immediate old answer made new
      → Outcome (WriteFilemarks count immediate) (reply_of answer) made
  marks_shown zero true work = unchanging (WriteFilemarks 0 true) (reply_of answer) made refl work.1
  marks_shown zero false work =
      unchanging (WriteFilemarks 0 false) (reply_of answer) made refl
      (stored_quiet Idles idles_quiet old answer made new work)
  marks_shown (suc n) immediate work =
      changing (WriteFilemarks (suc n) immediate) (reply_of answer) made (is_some n)
      (append_shown (not immediate) (marks_at old.position (suc n)) old answer made new work)

-- ERASE
erases_shown : (buffered : Bool) (old : Mounted) (answer : Result Reply Fault) (made : List Change) (new : Mounted)
    → Erases buffered old answer made new → Appends (reply_of answer) made
erases_shown buffered old answer made new work =
    append_shown (not buffered) (erase_at old.position) old answer made new work.0

erase_shown : (buffered : Bool) (old : Mounted) (answer : Result Reply Fault) (made : List Change) (new : Mounted)
    → EraseWork buffered old answer made new → Appends (reply_of answer) made
erase_shown buffered old (Ok reply) made new h =
    erases_shown buffered (mounted h.0 old.position) (Ok reply) made new h.2
erase_shown buffered old (Err NoMemory) made new h =
    erases_shown buffered (mounted h.0 old.position) (Err NoMemory) made new h.2
erase_shown buffered old (Err Writing) made new (inl h) = inl (h.0, unacknowledged write_error [] (λ e. cc))
erase_shown buffered old (Err Writing) made new (inr h) =
    erases_shown buffered (mounted h.0 old.position) (Err Writing) made new h.2
erase_shown buffered old (Err Reading) made new h =
    erases_shown buffered (mounted h.0 old.position) (Err Reading) made new h.2
erase_shown buffered old (Err (SideFull residue)) made new h =
    erases_shown buffered (mounted h.0 old.position) (Err (SideFull residue)) made new h.2
erase_shown buffered old (Err Saving) made new h =
    erases_shown buffered (mounted h.0 old.position) (Err Saving) made new h.2
erase_shown buffered old (Err StoreFull) made new h =
    erases_shown buffered (mounted h.0 old.position) (Err StoreFull) made new h.2

module _ (H : Type 0) (buffered : Bool) (sent : List ℕ) (old : Mounted) (answer : Result Reply Fault)
    (made : List Change) (new : Mounted) where
  -- any command that needs a medium
  work_shown : (command : Command) → length sent ≡ sent_length command
      → MediumWork H command buffered sent old answer made new → Outcome command (reply_of answer) made
  work_shown TestUnitReady counted work =
      unchanging TestUnitReady (reply_of answer) made refl work.1
  work_shown Rewind counted work =
      unchanging Rewind (reply_of answer) made refl
      (stored_quiet (GoesTo partition_start) (goes_quiet partition_start) old answer made new work)
  work_shown (Read asked suppress) counted work =
      unchanging (Read asked suppress) (reply_of answer) made refl
      (read_quiet H suppress asked old answer made new work)
  work_shown (Write asked) counted work = write_shown old answer made new asked buffered sent counted work
  work_shown (WriteFilemarks count immediate) counted work = marks_shown old answer made new count immediate work
  work_shown (Space code count) counted work =
      unchanging (Space code count) (reply_of answer) made refl
      (space_quiet (is_over_nothing code count) code count old answer made new work)
  work_shown Erase counted work =
      changing Erase (reply_of answer) made refl (erase_shown buffered old answer made new work)
  work_shown (Locate object part) counted work =
      unchanging (Locate object part) (reply_of answer) made refl
      (stored_quiet (LocateMotion object part) (locate_quiet object part) old answer made new work)
  work_shown ReadPosition counted work =
      unchanging ReadPosition (reply_of answer) made refl
      (stored_quiet GivesPosition (λ m a c n told. told.1) old answer made new work)
  work_shown (RequestSense room) counted work = absurd work
  work_shown ReadBlockLimits counted work = absurd work
  work_shown (Inquiry room) counted work = absurd work
  work_shown (PersistentReserveIn action room) counted work = absurd work
  work_shown (PersistentReserveOut action bytes) counted work = absurd work
  work_shown (ModeSelect length) counted work = absurd work
  work_shown (ModeSense room bare) counted work = absurd work
  work_shown (LoadUnload load) counted work = absurd work

module _ (H : Type 0) (nexus : ℕ) (sent : List ℕ) (old : Machine) (answer : Result Reply Fault) (made : Made)
    (new : Machine) where
  loaded_shown : (bay : Bay MediumState) (command : Command) → length sent ≡ sent_length command
      → OnMediumIn bay (MediumWork H command old.buffered sent) old answer made new
      → Outcome command (reply_of answer) made.changes
  loaded_shown (Loaded medium) command counted work =
      work_shown H old.buffered sent (mounted medium old.position) answer made.changes work.0 command counted work.1
  loaded_shown Empty command counted work = absurd work
  loaded_shown (Unloaded medium) command counted work = absurd work

  -- any command
  command_shown : (command : Command) → length sent ≡ sent_length command
      → Work H command nexus sent old answer made new
      → Outcome command (reply_of answer) made.changes
  command_shown TestUnitReady counted work = loaded_shown old.bay TestUnitReady counted work
  command_shown Rewind counted work = loaded_shown old.bay Rewind counted work
  command_shown (Read asked suppress) counted work = loaded_shown old.bay (Read asked suppress) counted work
  command_shown (Write asked) counted work = loaded_shown old.bay (Write asked) counted work
  command_shown (WriteFilemarks count immediate) counted work =
      loaded_shown old.bay (WriteFilemarks count immediate) counted work
  command_shown (Space code count) counted work = loaded_shown old.bay (Space code count) counted work
  command_shown Erase counted work = loaded_shown old.bay Erase counted work
  command_shown (Locate object part) counted work = loaded_shown old.bay (Locate object part) counted work
  command_shown ReadPosition counted work = loaded_shown old.bay ReadPosition counted work
  command_shown (RequestSense room) counted work =
      unchanging (RequestSense room) (reply_of answer) made.changes refl (unmade made work.1)
  command_shown ReadBlockLimits counted work =
      unchanging ReadBlockLimits (reply_of answer) made.changes refl (unmade made work.1)
  command_shown (Inquiry room) counted work =
      unchanging (Inquiry room) (reply_of answer) made.changes refl (unmade made work.1)
  command_shown (PersistentReserveIn action room) counted work =
      unchanging (PersistentReserveIn action room) (reply_of answer) made.changes refl (unmade made work.1)
  command_shown (PersistentReserveOut action bytes) counted work =
      unchanging (PersistentReserveOut action bytes) (reply_of answer) made.changes refl
      (list_quiet old answer made new (list_decoded action sent) nexus work)
  command_shown (ModeSelect bytes) counted work =
      unchanging (ModeSelect bytes) (reply_of answer) made.changes refl
      (mode_quiet old answer made new (mode_decoded sent) nexus work)
  command_shown (ModeSense room bare) counted work =
      unchanging (ModeSense room bare) (reply_of answer) made.changes refl (unmade made work.1)
  command_shown (LoadUnload load) counted work =
      unchanging (LoadUnload load) (reply_of answer) made.changes refl
      (load_unload_quiet old answer made new H load nexus work)

-- where none is made, and the reply does not acknowledge
none_shows : (cdb : List ℕ) (reply : Reply) (made : List Change) → made ≡ [] → (IsChanging cdb → Acknowledges reply → ⊥)
    → ShowsChanges cdb reply made
none_shows cdb reply made none never = record {
  few = rw none (omega arith);
  one = λ changes acknowledged. absurd (never changes acknowledged);
  none = λ other error. none;
  other = λ unchanged. none;
}

-- a reply shows an outcome in one way or the other
is_reported : (reply : Reply) → Acknowledges reply ⊎ ShowsWriteError reply → (Acknowledges reply → ⊥)
    → (ShowsWriteError reply → ⊥) → ⊥
is_reported reply (inl acknowledged) never other = never acknowledged
is_reported reply (inr fails) never other = other fails

-- an outcome shows so, by the command of the block
outcome_shows : (cdb : List ℕ) (command : Command) (reply : Reply) (made : List Change) → decoded cdb ≡ Ok command
    → Outcome command reply made → ShowsChanges cdb reply made
outcome_shows cdb command reply made is (inl h) =
    none_shows cdb reply made h.0 (λ changes. h.1 (rw is at changes))
outcome_shows cdb command reply made is (inr h) =
    let changes : IsChanging cdb = rw is h.1 in
    record {
      few = omega (arith, h.0);
      one = λ so acknowledged. h.0;
      none = λ never other. absurd (is_reported reply h.2 (never changes) other);
      other = λ unchanged. absurd (unchanged changes);
    }

module _ (H : Type 0) (old : Machine) (request : Request) (answer : Result Reply Fault) (made : Made)
    (new : Machine) where
  shown_as : (judged : Result Command Denial) → Judged request judged → ExecutesAs H judged request old answer made new
      → ShowsChanges request.cdb (reply_of answer) made.changes
  shown_as (Err denial) never h =
      none_shows request.cdb (reply_of answer) made.changes (unmade made h.1)
      (λ changes acknowledged. never (subst (λ (a : Result Reply Fault). Acknowledges (reply_of a)) h.0 acknowledged))
  shown_as (Ok command) is h =
      outcome_shows request.cdb command (reply_of answer) made.changes is.0
      (command_shown H request.nexus request.sent old answer made new command is.1 h)

  -- the reply to a request shows so
  pub executes_shown : Executes H request old answer made new
      → ShowsChanges request.cdb (reply_of answer) made.changes
  executes_shown h = shown_as (verdict old request) (code_judged old request (opcode_of request.cdb) refl) h

-- and so does each reply of a drive
pub replies_show : {M K : Type 0}
    (state : M → MediumState) (below : Below M Change) (kept : K → KeeperState) (keeps : Below K PrState)
    → RepliesShowChanges state below kept keeps
replies_show state below kept keeps old new request reply answers =
    subst (λ (r : Reply). ShowsChanges request.cdb r answers.taken.made.changes) (sym answers.replied)
    (executes_shown (HonestIn below (medium_in old.bay)) (machine_of state kept old) request answers.answer
    answers.taken.made (machine_of state kept new) answers.taken.step)
