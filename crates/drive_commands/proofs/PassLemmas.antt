-- What a command that passes all checks finds.
use Rattle.std.proofs.Common.{◌≡◌, ℕ, List, Option, None, Some, Result, Ok, Err, Bool, true, false, refl, IfOk, if◌then◌else◌}
use Rattle.scsi_opcodes.specs.declared.opcodes.Opcode.{Opcode}
use Rattle.scsi_opcodes.specs.declared.opcodes.Opcode.TheVariants.{TestUnitReady, Rewind, RequestSense, ReadBlockLimits, Read, Write, WriteFilemarks, Space, Inquiry, Erase, Locate, ReadPosition, PersistentReserveIn, PersistentReserveOut, ModeSelect, ModeSense, LoadUnload}
use Rattle.scsi_opcodes.specs.declared.commands.Command.{Command}
use Rattle.scsi_opcodes.specs.Opcodes.{is_exempt, needs_medium}
use Rattle.volume_core.specs.Medium.{MediumState}
use Rattle.drive_commands.specs.declared.bays.Bay.TheVariants.{Loaded}
use Rattle.scsi_sense.specs.Senses.{medium_failed}
use Rattle.drive_commands.specs.declared.conditions.Denial.{Denial}
use Rattle.drive_commands.specs.declared.conditions.Denial.TheVariants.{Refused}
use Rattle.drive_commands.specs.State.{Machine}
use Rattle.drive_commands.specs.Conditions.{condition_due, first_some}
use Rattle.drive_commands.specs.Checks.{condition_denial, reservation_denial, medium_denial, need_denial, state_denial}
use Rattle.drive_commands.specs.Inner.Passing.{IsPassed, HasFields}

-- no code is exempt from the check for a medium that it needs
needs_no_exempt : (opcode : Opcode) → needs_medium opcode ≡ true → is_exempt opcode ≡ false
needs_no_exempt TestUnitReady e = refl
needs_no_exempt Rewind e = refl
needs_no_exempt RequestSense e = cc
needs_no_exempt ReadBlockLimits e = cc
needs_no_exempt Read e = refl
needs_no_exempt Write e = refl
needs_no_exempt WriteFilemarks e = refl
needs_no_exempt Space e = refl
needs_no_exempt Inquiry e = cc
needs_no_exempt Erase e = refl
needs_no_exempt Locate e = refl
needs_no_exempt ReadPosition e = refl
needs_no_exempt PersistentReserveIn e = cc
needs_no_exempt PersistentReserveOut e = cc
needs_no_exempt ModeSelect e = cc
needs_no_exempt ModeSense e = cc
needs_no_exempt LoadUnload e = cc

last_none : (one other : Option Denial) → first_some one other ≡ None → other ≡ None
last_none None other e = e
last_none (Some denial) other e = cc

if_not : (b : Bool) (denial : Option Denial) → b ≡ false → (if b then None else denial) ≡ None → denial ≡ None
if_not false denial e h = h
if_not true denial e h = cc

if_so : (b : Bool) (denial : Option Denial) → b ≡ true → (if b then denial else None) ≡ None → denial ≡ None
if_so true denial e h = h
if_so false denial e h = cc

-- a command that needs a medium, and passes the checks of the drive's state, finds one
pub finds_medium : (machine : Machine) (nexus : ℕ) (opcode : Opcode) → state_denial machine nexus opcode ≡ None
    → needs_medium opcode ≡ true → medium_denial machine.bay ≡ None
finds_medium machine nexus opcode none needs =
    let checked =
    if_not (is_exempt opcode)
    (first_some (condition_denial (condition_due machine nexus))
    (first_some (reservation_denial machine nexus opcode) (need_denial machine opcode))) (needs_no_exempt opcode needs)
    none in
    if_so (needs_medium opcode) (medium_denial machine.bay) needs
    (last_none (reservation_denial machine nexus opcode) (need_denial machine opcode)
    (last_none (condition_denial (condition_due machine nexus))
    (first_some (reservation_denial machine nexus opcode) (need_denial machine opcode)) checked))

pub passes : (machine : Machine) (nexus : ℕ) (opcode : Opcode) (sent : List ℕ) (result : Result Command Denial)
    → state_denial machine nexus opcode ≡ None → IfOk result (λ command. HasFields machine opcode command sent)
    → IfOk result (λ command. IsPassed machine command sent)
passes machine nexus opcode sent (Ok command) none h =
    record {
      medium = λ needs. finds_medium machine nexus opcode none (rw h.code at needs);
      suited = h.suited;
      counted = h.counted;
      short = h.short;
    }
passes machine nexus opcode sent (Err denial) none h = tt

works_by : (failed : Bool) → (if failed then Some (Refused medium_failed) else None) ≡ None → failed ≡ false
works_by false e = refl
works_by true e = cc

-- a medium that is found is loaded, and has not failed
pub loaded_works : (medium : MediumState) → medium_denial (Loaded medium) ≡ None → medium.failed ≡ false
loaded_works medium e = works_by medium.failed e
