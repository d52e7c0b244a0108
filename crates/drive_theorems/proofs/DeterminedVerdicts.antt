-- Drives that are seen alike judge a request alike.
use Rattle.std.proofs.Common.{◌≡◌, ℕ, List, [], Option, None, Some, Ok, Err, Bool, true, false, refl, sym, ◌∙◌, ap, length, nat_lt, ◌==◌, ◌&&◌, not, if◌then◌else◌}
use Rattle.scsi_attention.specs.Attentions.{attention_of, cleared}
use Rattle.scsi_sense.specs.Senses.{invalid_field, medium_not_present, medium_failed}
use Rattle.scsi_opcodes.specs.declared.opcodes.Opcode.{Opcode}
use Rattle.scsi_opcodes.specs.declared.commands.Command.{Command}
use Rattle.scsi_opcodes.specs.declared.commands.Command.TheVariants.{TestUnitReady, Rewind, RequestSense, ReadBlockLimits, Read, Write, WriteFilemarks, Space, Inquiry, Erase, Locate, ReadPosition, PersistentReserveIn, PersistentReserveOut, ModeSelect, ModeSense, LoadUnload}
use Rattle.scsi_opcodes.specs.Opcodes.{opcode_of, is_exempt, is_stopped_by_reservation, needs_medium}
use Rattle.scsi_opcodes.specs.Commands.{command_of, sent_length}
use Rattle.volume_core.specs.Volume.{Part}
use Rattle.volume_core.specs.Medium.{MediumState}
use Rattle.pr_core.specs.States.{is_allowed}
use Rattle.drive_commands.specs.declared.bays.Bay.{Bay}
use Rattle.drive_commands.specs.declared.bays.Bay.TheVariants.{Empty, Unloaded, Loaded}
use Rattle.drive_commands.specs.declared.conditions.Condition.{Condition}
use Rattle.drive_commands.specs.declared.conditions.Condition.TheVariants.{DeferredError, UnitAttention}
use Rattle.drive_commands.specs.declared.conditions.Denial.{Denial}
use Rattle.drive_commands.specs.declared.conditions.Denial.TheVariants.{Refused, Reported, Conflict}
use Rattle.drive_commands.specs.State.{Machine, bay_of, volume_in}
use Rattle.drive_commands.specs.Conditions.{attention_due, condition_due, denied, first_some, without_condition}
use Rattle.drive_commands.specs.RequestSense.{once_reported}
use Rattle.drive_commands.specs.Work.{Request}
use Rattle.drive_commands.specs.Checks.{condition_denial, fields_verdict, medium_denial, state_denial, suits, unless_denied, verdict, verdict_at}
use Rattle.drive_commands.specs.Determined.{IsSureDrive, Sight, sight_of, seen_of}
use Rattle.drive_theorems.proofs.DeterminedOrders.{Seen}

-- what denies a command that needs a medium, by what is seen of it
abbrev denial_seen : Bay Sight → Option Denial
denial_seen (Loaded sight) = if sight.failed then Some (Refused medium_failed) else None
denial_seen Empty = Some (Refused medium_not_present)
denial_seen (Unloaded sight) = Some (Refused medium_not_present)

-- the volume that is seen
abbrev volume_of_sight : Bay Sight → List Part
volume_of_sight (Loaded sight) = sight.volume
volume_of_sight Empty = []
volume_of_sight (Unloaded sight) = []

-- what is in two drives that are seen alike is denied alike
medium_denied : (bay : Bay MediumState) → medium_denial bay ≡ denial_seen (bay_of sight_of bay)
medium_denied Empty = refl
medium_denied (Unloaded medium) = refl
medium_denied (Loaded medium) = refl

-- and has the same volume
volume_seen : (bay : Bay MediumState) → volume_in bay ≡ volume_of_sight (bay_of sight_of bay)
volume_seen Empty = refl
volume_seen (Unloaded medium) = refl
volume_seen (Loaded medium) = refl

module _ (old beside : Machine) (e : seen_of old ≡ seen_of beside) where
  volumes_same : volume_in old.bay ≡ volume_in beside.bay
  volumes_same =
      volume_seen old.bay ∙ ap (λ (x : Seen). volume_of_sight x.bay) e ∙ sym (volume_seen beside.bay)

  denials_same : medium_denial old.bay ≡ medium_denial beside.bay
  denials_same = medium_denied old.bay ∙ ap (λ (x : Seen). denial_seen x.bay) e ∙ sym (medium_denied beside.bay)

  suits_same : (command : Command) → suits old command ≡ suits beside command
  suits_same TestUnitReady = refl
  suits_same Rewind = refl
  suits_same (RequestSense room) = refl
  suits_same ReadBlockLimits = refl
  suits_same (Read asked suppress) = refl
  suits_same (Write asked) = refl
  suits_same (WriteFilemarks count immediate) = ap (λ (x : Seen). if immediate then x.buffered else true) e
  suits_same (Space code count) = refl
  suits_same (Inquiry room) = refl
  suits_same Erase = refl
  suits_same (Locate object (Some part)) = ap (λ (v : List Part). nat_lt part (length v)) volumes_same
  suits_same (Locate object None) = refl
  suits_same ReadPosition = refl
  suits_same (PersistentReserveIn action room) = refl
  suits_same (PersistentReserveOut action bytes) = refl
  suits_same (ModeSelect length) = refl
  suits_same (ModeSense room bare) = refl
  suits_same (LoadUnload load) = refl

  pub due_same : (nexus : ℕ) → condition_due old nexus ≡ condition_due beside nexus
  due_same nexus =
      ap (λ (x : Seen).
      first_some (if x.deferred then Some DeferredError else None) (attention_due (attention_of x.attentions nexus))) e

  fields_same : (sent : List ℕ) (found : Option Command)
      → fields_verdict old sent found ≡ fields_verdict beside sent found
  fields_same sent None = refl
  fields_same sent (Some command) =
      ap (λ (b : Bool). if b && (length sent == sent_length command) then Ok command else Err (Refused invalid_field))
      (suits_same command)

  state_same : (nexus : ℕ) (opcode : Opcode) → state_denial old nexus opcode ≡ state_denial beside nexus opcode
  state_same nexus opcode = λ i.
      if is_exempt opcode then None
      else first_some (condition_denial (due_same nexus i))
      (first_some
      (if is_stopped_by_reservation opcode && not (is_allowed (e i).reservations nexus) then Some Conflict else None)
      (if needs_medium opcode then denials_same i else None))

  code_same : (request : Request) (found : Option Opcode)
      → verdict_at old request found ≡ verdict_at beside request found
  code_same request None = refl
  code_same request (Some opcode) = λ i.
      unless_denied (state_same request.nexus opcode i)
      (fields_same request.sent (command_of opcode request.cdb) i)

  -- drives that are seen alike judge a request alike
  pub verdict_same : (request : Request) → verdict old request ≡ verdict beside request
  verdict_same request = code_same request (opcode_of request.cdb)

  -- and are seen alike once a condition was reported
  without_same : (condition : Condition) (nexus : ℕ)
      → seen_of (without_condition condition nexus old) ≡ seen_of (without_condition condition nexus beside)
  without_same DeferredError nexus = ap (λ (x : Seen). record x { deferred = false }) e
  without_same (UnitAttention attention) nexus =
      ap (λ (x : Seen). record x { attentions = cleared x.attentions nexus attention }) e

  pub denied_same : (denial : Denial) (nexus : ℕ) → seen_of (denied denial nexus old) ≡ seen_of (denied denial nexus
      beside)
  denied_same (Refused sense) nexus = e
  denied_same (Reported condition) nexus = without_same condition nexus
  denied_same Conflict nexus = e

  -- of their media it stays sure what they give
  without_sure : (condition : Condition) (nexus : ℕ) → IsSureDrive (seen_of old)
      → IsSureDrive (seen_of (without_condition condition nexus old))
  without_sure DeferredError nexus sure = sure
  without_sure (UnitAttention attention) nexus sure = sure

  pub denied_sure : (denial : Denial) (nexus : ℕ) → IsSureDrive (seen_of old)
      → IsSureDrive (seen_of (denied denial nexus old))
  denied_sure (Refused sense) nexus sure = sure
  denied_sure (Reported condition) nexus sure = without_sure condition nexus sure
  denied_sure Conflict nexus sure = sure

  pub reported_sure : (due : Option Condition) (nexus : ℕ) → IsSureDrive (seen_of old)
      → IsSureDrive (seen_of (once_reported due nexus old))
  reported_sure None nexus sure = sure
  reported_sure (Some condition) nexus sure = without_sure condition nexus sure

  pub reported_same : (due : Option Condition) (nexus : ℕ)
      → seen_of (once_reported due nexus old) ≡ seen_of (once_reported due nexus beside)
  reported_same None nexus = e
  reported_same (Some condition) nexus = without_same condition nexus
