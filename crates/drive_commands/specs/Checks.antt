-- The checks of a command in their order, and then its work.
use Rattle.std.specs.Prelude.{◌≡◌, ℕ, List, length, Option, None, Some, Bool, true, nat_lt, ◌==◌, ◌&&◌, not, if◌then◌else◌, Result, Ok, Err}
use Rattle.scsi_opcodes.specs.declared.opcodes.Opcode.{Opcode}
use Rattle.scsi_opcodes.specs.declared.commands.Command.{Command}
use Rattle.scsi_opcodes.specs.declared.commands.Command.TheVariants.{WriteFilemarks, Locate}
use Rattle.scsi_sense.specs.Senses.{invalid_operation_code, invalid_field, medium_not_present, medium_failed}
use Rattle.scsi_opcodes.specs.Opcodes.{opcode_of, is_exempt, is_stopped_by_reservation, needs_medium}
use Rattle.scsi_opcodes.specs.Commands.{command_of, sent_length}
use Rattle.pr_core.specs.States.{is_allowed}
use Rattle.volume_core.specs.Medium.{MediumState}
use Rattle.drive_commands.specs.declared.bays.Bay.{Bay}
use Rattle.drive_commands.specs.declared.bays.Bay.TheVariants.{Loaded}
use Rattle.drive_commands.specs.declared.conditions.Condition.{Condition}
use Rattle.drive_commands.specs.declared.conditions.Denial.{Denial}
use Rattle.drive_commands.specs.declared.conditions.Denial.TheVariants.{Refused, Reported, Conflict}
use Rattle.drive_commands.specs.State.{Machine, volume_in}
use Rattle.drive_commands.specs.Conditions.{condition_due, first_some, denial_reply, denied}
use Rattle.drive_commands.specs.Relations.{MachineRelation, made_nothing}
use Rattle.drive_commands.specs.Work.{Request, Work}

-- checks 2 and 3: no deferred error, and no unit attention condition is to be reported (SPC-4)
abbrev pub condition_denial : Option Condition → Option Denial
condition_denial None = None
condition_denial (Some condition) = Some (Reported condition)

-- check 4: no reservation keeps the nexus out of this command (own, one rule for all types)
abbrev pub reservation_denial : Machine → ℕ → Opcode → Option Denial
reservation_denial machine nexus opcode =
    if is_stopped_by_reservation opcode && not (is_allowed machine.reservations nexus) then Some Conflict else None

-- a cartridge is loaded, and then: the medium has not failed (own)
abbrev pub medium_denial : Bay MediumState → Option Denial
medium_denial (Loaded medium) = if medium.failed then Some (Refused medium_failed) else None
medium_denial _ = Some (Refused medium_not_present)

-- check 5: a command that needs a medium finds one (own)
abbrev pub need_denial : Machine → Opcode → Option Denial
need_denial machine opcode = if needs_medium opcode then medium_denial machine.bay else None

-- checks 2 to 5: the first that a command does not pass; for an exempt one there is none
-- (own, the order of checks; SPC-4, INQUIRY, REQUEST SENSE)
abbrev pub state_denial : Machine → ℕ → Opcode → Option Denial
state_denial machine nexus opcode =
    if is_exempt opcode then None
    else first_some (condition_denial (condition_due machine nexus))
    (first_some (reservation_denial machine nexus opcode) (need_denial machine opcode))

-- whether the fields of a command suit the drive: an answer that does not wait needs the buffered mode, and a partition
-- to go to is one of the volume's (own)
abbrev pub suits : Machine → Command → Bool
suits machine (WriteFilemarks count immediate) = if immediate then machine.buffered else true
suits machine (Locate object (Some part)) = nat_lt part (length (volume_in machine.bay))
suits machine _ = true

-- check 6: the block's length and its fields are right, they suit the drive, and as many bytes were sent as the block
-- says (own, the order of checks)
abbrev pub fields_verdict : Machine → List ℕ → Option Command → Result Command Denial
fields_verdict machine sent None = Err (Refused invalid_field)
fields_verdict machine sent (Some command) =
    if suits machine command && (length sent == sent_length command) then Ok command
    else Err (Refused invalid_field)

-- what a check left open is decided by the next; the first that is not passed decides (own)
abbrev pub unless_denied : Option Denial → Result Command Denial → Result Command Denial
unless_denied (Some denial) next = Err denial
unless_denied None next = next

-- check 1: the code is known; and then the others (SPC-4, operation code; own, the order of checks)
abbrev pub verdict_at : Machine → Request → Option Opcode → Result Command Denial
verdict_at machine request None = Err (Refused invalid_operation_code)
verdict_at machine request (Some opcode) =
    unless_denied (state_denial machine request.nexus opcode)
    (fields_verdict machine request.sent (command_of opcode request.cdb))

-- the command of a request, or the first check that it does not pass (own, the order of checks)
abbrev pub verdict : Machine → Request → Result Command Denial
verdict machine request = verdict_at machine request (opcode_of request.cdb)

-- a request whose checks had this result: it is denied, and no more is done; or its command is carried out (SAM-5;
-- honesty own)
abbrev pub ExecutesAs : Type 0 → Result Command Denial → Request → MachineRelation
ExecutesAs honest (Err denial) request old answer made new =
    (answer ≡ Ok (denial_reply denial)) × (made ≡ made_nothing) × (new ≡ denied denial request.nexus old)
ExecutesAs honest (Ok command) request old answer made new =
    Work honest command request.nexus request.sent old answer made new

-- a request is checked, and carried out where it passes all checks (own, the order of checks)
abbrev pub Executes : Type 0 → Request → MachineRelation
Executes honest request old answer made new =
    ExecutesAs honest (verdict old request) request old answer made new
