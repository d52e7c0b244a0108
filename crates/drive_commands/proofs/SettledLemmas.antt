-- A synchronizing command that is acknowledged leaves nothing pending, check by check.
use Rattle.std.proofs.Common.{◌≡◌, ◌≢◌, ℕ, ℤ, zero, suc, List, [], ◌∷◌, Option, None, Some, Result, Ok, Err, Bool, true, false, length, ◌==◌, refl, subst, ap, inl, inr, nat_lt, not, ◌&&◌, if◌then◌else◌}
use Rattle.std.proofs.lemmas.Bool.{eqb-true}
use Rattle.vtl_base.specs.declared.space_codes.SpaceCode.{SpaceCode}
use Rattle.scsi_sense.specs.declared.replies.Reply.{Reply}
use Rattle.scsi_sense.specs.declared.sense_data.Sense.{Sense}
use Rattle.scsi_sense.specs.declared.sense_data.SenseKey.TheVariants.{NoSense}
use Rattle.scsi_attention.specs.declared.attention_sets.Attention.{Attention}
use Rattle.scsi_attention.specs.declared.attention_sets.Attention.TheVariants.{PowerOn, MediumChanged, ReservationsPreempted, RegistrationsPreempted, ReservationsReleased, ModeChanged}
use Rattle.scsi_opcodes.specs.declared.opcodes.Opcode.{Opcode}
use Rattle.scsi_opcodes.specs.declared.commands.Command.{Command}
use Rattle.scsi_opcodes.specs.declared.commands.Command.TheVariants.{TestUnitReady, Rewind, RequestSense, ReadBlockLimits, Read, Write, WriteFilemarks, Space, Inquiry, Erase, Locate, ReadPosition, PersistentReserveIn, PersistentReserveOut, ModeSelect, ModeSense, LoadUnload}
use Rattle.scsi_opcodes.specs.Opcodes.{opcode_of, is_exempt, needs_medium, is_stopped_by_reservation}
use Rattle.scsi_opcodes.specs.Commands.{command_of, sent_length, checked, decoded, decoded_as}
use Rattle.scsi_sense.specs.Senses.{invalid_field, invalid_operation_code, medium_not_present, medium_failed, deferred_write_error, attention_sense, volume_overflow}
use Rattle.scsi_sense.specs.Replies.{check_with, conflict}
use Rattle.pr_core.specs.States.{is_allowed}
use Rattle.volume_core.specs.declared.changes.Change.{Change}
use Rattle.volume_core.specs.declared.changes.Refusal.{Refusal}
use Rattle.volume_core.specs.declared.changes.Refusal.TheVariants.{NoPartition, PastEnd, NoRoom, TooLong}
use Rattle.volume_core.specs.Volume.{refusal_of}
use Rattle.volume_core.specs.Medium.{MediumState}
use Rattle.drive_commands.specs.declared.bays.Bay.{Bay}
use Rattle.drive_commands.specs.declared.bays.Bay.TheVariants.{Empty, Unloaded, Loaded}
use Rattle.drive_commands.specs.declared.conditions.Condition.{Condition}
use Rattle.drive_commands.specs.declared.conditions.Condition.TheVariants.{DeferredError, UnitAttention}
use Rattle.drive_commands.specs.declared.conditions.Denial.{Denial}
use Rattle.drive_commands.specs.declared.conditions.Denial.TheVariants.{Refused, Conflict}
use Rattle.drive_commands.specs.State.{Machine, Mounted, mounted, contents_of}
use Rattle.drive_commands.specs.Relations.{Made}
use Rattle.drive_commands.specs.Append.{AppendAnswer, LacksRoom, amount_of}
use Rattle.drive_commands.specs.Space.{SpaceWhen, is_over_nothing}
use Rattle.drive_commands.specs.Erase.{EraseWork, erase_at}
use Rattle.drive_commands.specs.Write.{WriteWork, put_at}
use Rattle.drive_commands.specs.Marks.{MarksWork, marks_at}
use Rattle.drive_commands.specs.Read.{ReadWork}
use Rattle.drive_commands.specs.Work.{Request, MediumWork, Work}
use Rattle.drive_commands.specs.OnMedium.{OnMediumIn}
use Rattle.drive_commands.specs.Conditions.{condition_due, denial_reply, first_some}
use Rattle.drive_commands.specs.Checks.{Executes, ExecutesAs, condition_denial, fields_verdict, medium_denial, need_denial, reservation_denial, state_denial, suits, unless_denied, verdict, verdict_at}
use Rattle.drive_commands.specs.Synchronize.{synchronizes, IsSynchronizing, Acknowledges, NothingPending}
use Rattle.drive_commands.proofs.CleanLemmas.{IsClean, load_unload_settled, stored_clean}

attention_key : (attention : Attention) → (attention_sense attention).key ≢ NoSense
attention_key PowerOn = λ e. cc
attention_key MediumChanged = λ e. cc
attention_key ReservationsPreempted = λ e. cc
attention_key RegistrationsPreempted = λ e. cc
attention_key ReservationsReleased = λ e. cc
attention_key ModeChanged = λ e. cc

-- CHECK CONDITION with a key acknowledges nothing
pub unacknowledged : (sense : Sense) (bytes : List ℕ) → sense.key ≢ NoSense → Acknowledges (check_with sense bytes) → ⊥
unacknowledged sense bytes other (inl good) = cc
unacknowledged sense bytes other (inr warning) = other warning.1.0

-- and neither does RESERVATION CONFLICT
conflict_unacknowledged : Acknowledges conflict → ⊥
conflict_unacknowledged (inl good) = cc
conflict_unacknowledged (inr warning) = cc warning.0

-- where room is lacking nothing is acknowledged
pub lacks_unacknowledged : (amount : Option ℕ) (old : Mounted) (reply : Reply) (made : List Change) (new : Mounted)
    → LacksRoom amount old reply made new → Acknowledges reply → ⊥
lacks_unacknowledged None old reply made new h acknowledged = absurd h
lacks_unacknowledged (Some amount) old reply made new h acknowledged =
    unacknowledged (volume_overflow (Some amount)) [] (λ e. cc)
    (subst (λ (r : Reply). Acknowledges r) h.0 acknowledged)

append_settled : (cause : Option Refusal) (change : Change) (old : Mounted) (reply : Reply) (made : List Change)
    (new : Mounted) → AppendAnswer cause true change old reply made new → Acknowledges reply → IsClean new.medium
append_settled None change old reply made new h acknowledged = (h.2.medium_is.works, h.3 refl)
append_settled (Some NoRoom) change old reply made new h acknowledged =
    absurd (lacks_unacknowledged (amount_of change) old reply made new h acknowledged)
append_settled (Some NoPartition) change old reply made new h acknowledged = absurd h
append_settled (Some PastEnd) change old reply made new h acknowledged = absurd h
append_settled (Some TooLong) change old reply made new h acknowledged = absurd h

write_settled : (sent : List ℕ) (old : Mounted) (reply : Reply) (made : List Change) (new : Mounted) → 0 ≢ length sent
    → WriteWork false sent old (Ok reply) made new → Acknowledges reply → IsClean new.medium
write_settled [] old reply made new some h acknowledged = absurd (some refl)
write_settled (byte ∷ bytes) old reply made new some h acknowledged =
    append_settled (refusal_of (contents_of old) (put_at old.position (byte ∷ bytes)))
    (put_at old.position (byte ∷ bytes)) old reply made new h acknowledged

marks_settled : (count : ℕ) (old : Mounted) (reply : Reply) (made : List Change) (new : Mounted)
    → MarksWork count false old (Ok reply) made new → Acknowledges reply → IsClean new.medium
marks_settled zero old reply made new h acknowledged =
    stored_clean old.medium h.0 new.medium h.1 (ap (λ (m : Mounted). m.medium) h.2.2)
marks_settled (suc n) old reply made new h acknowledged =
    append_settled (refusal_of (contents_of old) (marks_at old.position (suc n))) (marks_at old.position (suc n)) old
    reply made new h acknowledged

-- SPACE that is not over nothing
space_settled : (nothing : Bool) (code : SpaceCode) (count : ℤ) (old : Mounted) (reply : Reply) (made : List Change)
    (new : Mounted) → not nothing ≡ true → SpaceWhen nothing code count old (Ok reply) made new → IsClean new.medium
space_settled true code count old reply made new some h = cc
space_settled false code count old reply made new some h = stored_clean old.medium h.0 new.medium h.1 h.2.1.medium

-- ERASE in a mode that is not buffered
erase_settled : (buffered : Bool) (old : Mounted) (reply : Reply) (made : List Change) (new : Mounted)
    → not buffered ≡ true → EraseWork buffered old (Ok reply) made new → Acknowledges reply → IsClean new.medium
erase_settled true old reply made new some h acknowledged = cc
erase_settled false old reply made new some h acknowledged =
    append_settled (refusal_of (contents_of (mounted h.0 old.position)) (erase_at old.position)) (erase_at old.position)
    (mounted h.0 old.position) reply made new h.2.0 acknowledged

module _ (H : Type 0) where
  read_settled : (suppress : Bool) (asked : ℕ) (old : Mounted) (reply : Reply) (made : List Change) (new : Mounted)
      → nat_lt 0 asked ≡ true → ReadWork H suppress asked old (Ok reply) made new → IsClean new.medium
  read_settled suppress zero old reply made new some h = cc
  read_settled suppress (suc n) old reply made new some h = stored_clean old.medium h.0 new.medium h.1 h.2.1

  -- the work of a synchronizing command, at a drive in this mode
  work_settled : (command : Command) (machine : Machine) (sent : List ℕ) (old : Mounted) (reply : Reply)
      (made : List Change) (new : Mounted) → synchronizes machine command ≡ true → length sent ≡ sent_length command
      → MediumWork H command machine.buffered sent old (Ok reply) made new → Acknowledges reply → IsClean new.medium
  work_settled TestUnitReady machine sent old reply made new sure counted h acknowledged = cc
  work_settled Rewind machine sent old reply made new sure counted h acknowledged =
      stored_clean old.medium h.0 new.medium h.1 (ap (λ (m : Mounted). m.medium) h.2.2)
  work_settled (Read asked suppress) machine sent old reply made new sure counted h acknowledged =
      read_settled suppress asked old reply made new sure h
  work_settled (Write asked) machine sent old reply made new sure counted h acknowledged =
      in_mode machine.buffered asked counted sure h
    where
      in_mode : (b : Bool) (asked : ℕ) → length sent ≡ asked → (not b && nat_lt 0 asked) ≡ true
          → WriteWork b sent old (Ok reply) made new → IsClean new.medium
      in_mode true asked counted sure h = cc
      in_mode false zero counted sure h = cc
      in_mode false (suc n) counted sure h =
          write_settled sent old reply made new (λ e. cc (e, counted)) h acknowledged
  work_settled (WriteFilemarks count true) machine sent old reply made new sure counted h acknowledged = cc
  work_settled (WriteFilemarks count false) machine sent old reply made new sure counted h acknowledged =
      marks_settled count old reply made new h acknowledged
  work_settled (Space code count) machine sent old reply made new sure counted h acknowledged =
      space_settled (is_over_nothing code count) code count old reply made new sure h
  work_settled Erase machine sent old reply made new sure counted h acknowledged =
      erase_settled machine.buffered old reply made new sure h acknowledged
  work_settled (Locate object part) machine sent old reply made new sure counted h acknowledged =
      stored_clean old.medium h.0 new.medium h.1 h.2.1.medium
  work_settled ReadPosition machine sent old reply made new sure counted h acknowledged =
      stored_clean old.medium h.0 new.medium h.1 (ap (λ (m : Mounted). m.medium) h.2.2)
  work_settled (RequestSense room) machine sent old reply made new sure counted h acknowledged = cc
  work_settled ReadBlockLimits machine sent old reply made new sure counted h acknowledged = cc
  work_settled (Inquiry room) machine sent old reply made new sure counted h acknowledged = cc
  work_settled (PersistentReserveIn action room) machine sent old reply made new sure counted h acknowledged = cc
  work_settled (PersistentReserveOut action bytes) machine sent old reply made new sure counted h acknowledged = cc
  work_settled (ModeSelect length) machine sent old reply made new sure counted h acknowledged = cc
  work_settled (ModeSense room bare) machine sent old reply made new sure counted h acknowledged = cc
  work_settled (LoadUnload load) machine sent old reply made new sure counted h acknowledged = absurd h

  module _ (old : Machine) (nexus : ℕ) (sent : List ℕ) (reply : Reply) (made : Made) (new : Machine)
      (acknowledged : Acknowledges reply) where
    medium_clean : (bay : Bay MediumState) (command : Command) → synchronizes old command ≡ true
        → length sent ≡ sent_length command
        → OnMediumIn bay (MediumWork H command old.buffered sent) old (Ok reply) made new → NothingPending H new
    medium_clean (Loaded medium) command sure counted h =
        let clean : IsClean h.0.medium =
        work_settled command old sent (mounted medium old.position) reply made.changes h.0 sure counted h.1
        acknowledged in
        rw h.2 (clean, tt)
    medium_clean Empty command sure counted h = absurd h
    medium_clean (Unloaded medium) command sure counted h = absurd h

    -- the work of a synchronizing command
    pub command_settled : (command : Command) → synchronizes old command ≡ true → length sent ≡ sent_length command
        → Work H command nexus sent old (Ok reply) made new → NothingPending H new
    command_settled TestUnitReady sure counted h = cc
    command_settled Rewind sure counted h = medium_clean old.bay Rewind sure counted h
    command_settled (Read asked suppress) sure counted h = medium_clean old.bay (Read asked suppress) sure counted h
    command_settled (Write asked) sure counted h = medium_clean old.bay (Write asked) sure counted h
    command_settled (WriteFilemarks count immediate) sure counted h =
        medium_clean old.bay (WriteFilemarks count immediate) sure counted h
    command_settled (Space code count) sure counted h = medium_clean old.bay (Space code count) sure counted h
    command_settled Erase sure counted h = medium_clean old.bay Erase sure counted h
    command_settled (Locate object part) sure counted h = medium_clean old.bay (Locate object part) sure counted h
    command_settled ReadPosition sure counted h = medium_clean old.bay ReadPosition sure counted h
    command_settled (RequestSense room) sure counted h = cc
    command_settled ReadBlockLimits sure counted h = cc
    command_settled (Inquiry room) sure counted h = cc
    command_settled (PersistentReserveIn action room) sure counted h = cc
    command_settled (PersistentReserveOut action bytes) sure counted h = cc
    command_settled (ModeSelect length) sure counted h = cc
    command_settled (ModeSense room bare) sure counted h = cc
    command_settled (LoadUnload load) sure counted h = load_unload_settled H old reply made new load nexus sure h

-- a command that is denied is not acknowledged, one that is carried out is the block's and came with its bytes
abbrev pub Judged : Request → Result Command Denial → Type 0
Judged request (Err denial) = Acknowledges (denial_reply denial) → ⊥
Judged request (Ok command) =
    (decoded request.cdb ≡ Ok command) × (length request.sent ≡ sent_length command)

-- a denial that may be there is not acknowledged
abbrev IsNoAcknowledgement : Option Denial → Type 0
IsNoAcknowledgement None = Unit {0}
IsNoAcknowledgement (Some denial) = Acknowledges (denial_reply denial) → ⊥

condition_unacknowledged : (due : Option Condition) → IsNoAcknowledgement (condition_denial due)
condition_unacknowledged None = tt
condition_unacknowledged (Some DeferredError) = unacknowledged deferred_write_error [] (λ e. cc)
condition_unacknowledged (Some (UnitAttention attention)) =
    unacknowledged (attention_sense attention) [] (attention_key attention)

reservation_unacknowledged : (out : Bool)
    → IsNoAcknowledgement (if out then Some Conflict else None)
reservation_unacknowledged true = conflict_unacknowledged
reservation_unacknowledged false = tt

failed_unacknowledged : (failed : Bool) → IsNoAcknowledgement (if failed then Some (Refused medium_failed) else None)
failed_unacknowledged true = unacknowledged medium_failed [] (λ e. cc)
failed_unacknowledged false = tt

medium_unacknowledged : (bay : Bay MediumState) → IsNoAcknowledgement (medium_denial bay)
medium_unacknowledged Empty = unacknowledged medium_not_present [] (λ e. cc)
medium_unacknowledged (Unloaded medium) = unacknowledged medium_not_present [] (λ e. cc)
medium_unacknowledged (Loaded medium) = failed_unacknowledged medium.failed

need_unacknowledged : (needs : Bool) (bay : Bay MediumState)
    → IsNoAcknowledgement (if needs then medium_denial bay else None)
need_unacknowledged true bay = medium_unacknowledged bay
need_unacknowledged false bay = tt

first_unacknowledged : (one other : Option Denial) → IsNoAcknowledgement one → IsNoAcknowledgement other
    → IsNoAcknowledgement (first_some one other)
first_unacknowledged None other h k = k
first_unacknowledged (Some denial) other h k = h

unless_exempt : (exempt : Bool) (denial : Option Denial) → IsNoAcknowledgement denial
    → IsNoAcknowledgement (if exempt then None else denial)
unless_exempt true denial h = tt
unless_exempt false denial h = h

judged_unless : (request : Request) (denial : Option Denial) (next : Result Command Denial)
    → IsNoAcknowledgement denial → Judged request next → Judged request (unless_denied denial next)
judged_unless request None next h k = k
judged_unless request (Some denial) next h k = h

module _ (machine : Machine) (request : Request) where
  both_hold : (suited counted : Bool) (command : Command) → (length request.sent == sent_length command) ≡ counted
      → decoded request.cdb ≡ Ok command
      → Judged request (if suited && counted then Ok command else Err (Refused invalid_field))
  both_hold true true command e is = (is, eqb-true (length request.sent) (sent_length command) e)
  both_hold true false command e is = unacknowledged invalid_field [] (λ e. cc)
  both_hold false counted command e is = unacknowledged invalid_field [] (λ e. cc)

  fields_judged : (found : Option Command) → decoded request.cdb ≡ checked found
      → Judged request (fields_verdict machine request.sent found)
  fields_judged None is = unacknowledged invalid_field [] (λ e. cc)
  fields_judged (Some command) is =
      both_hold (suits machine command) (length request.sent == sent_length command) command refl is

  pub code_judged : (found : Option Opcode) → opcode_of request.cdb ≡ found → Judged request (verdict_at machine request
      found)
  code_judged None is = unacknowledged invalid_operation_code [] (λ e. cc)
  code_judged (Some opcode) is =
      judged_unless request (state_denial machine request.nexus opcode)
      (fields_verdict machine request.sent (command_of opcode request.cdb))
      (unless_exempt (is_exempt opcode)
      (first_some (condition_denial (condition_due machine request.nexus))
      (first_some (reservation_denial machine request.nexus opcode) (need_denial machine opcode)))
      (first_unacknowledged (condition_denial (condition_due machine request.nexus))
      (first_some (reservation_denial machine request.nexus opcode) (need_denial machine opcode))
      (condition_unacknowledged (condition_due machine request.nexus))
      (first_unacknowledged (reservation_denial machine request.nexus opcode) (need_denial machine opcode)
      (reservation_unacknowledged
      (is_stopped_by_reservation opcode && not (is_allowed machine.reservations request.nexus)))
      (need_unacknowledged (needs_medium opcode) machine.bay))))
      (fields_judged (command_of opcode request.cdb) (ap (λ (o : Option Opcode). decoded_as o request.cdb) is))

module _ (H : Type 0) (old : Machine) (request : Request) (reply : Reply) (made : Made) (new : Machine) where
  settled_as : (judged : Result Command Denial) → Judged request judged
      → ExecutesAs H judged request old (Ok reply) made new → IsSynchronizing old request.cdb → Acknowledges reply
      → NothingPending H new
  settled_as (Err denial) never h sure acknowledged =
      let same : reply ≡ denial_reply denial = cc h.0 in
      absurd (never (subst (λ (r : Reply). Acknowledges r) same acknowledged))
  settled_as (Ok command) is h sure acknowledged =
      command_settled H old request.nexus request.sent reply made new acknowledged command (rw is.0 at sure) is.1 h

  -- a synchronizing command that is acknowledged leaves nothing pending
  pub settled : Executes H request old (Ok reply) made new → IsSynchronizing old request.cdb → Acknowledges reply
      → NothingPending H new
  settled h sure acknowledged =
      settled_as (verdict old request) (code_judged old request (opcode_of request.cdb) refl) h sure acknowledged
