-- A flusher's turn.
use Rattle.std.specs.Prelude.{◌≡◌, true, Result, Ok, Err}
use Rattle.volume_core.specs.declared.media.Turn.{Turn}
use Rattle.volume_core.specs.declared.media.Turn.TheVariants.{Idle, Device}
use Rattle.volume_core.specs.Medium.{MediumState, Turns}
use Rattle.drive_commands.specs.declared.bays.Bay.{Bay}
use Rattle.drive_commands.specs.declared.bays.Bay.TheVariants.{Loaded}
use Rattle.drive_commands.specs.declared.faults.Fault.{Fault}
use Rattle.drive_commands.specs.declared.faults.Fault.TheVariants.{Writing}
use Rattle.drive_commands.specs.State.{Machine}
use Rattle.drive_commands.specs.Relations.{Made, made_nothing}

-- the drive with what its medium became in a turn: a fault establishes a deferred error (SPC-4, deferred errors)
abbrev pub after_turn : Turn → MediumState → Machine → Machine
after_turn Device medium machine = record machine { bay = Loaded medium; deferred = true }
after_turn _ medium machine = record machine { bay = Loaded medium }

-- a loaded medium, which is awake, takes the turn; if none is loaded, nothing is done (own)
abbrev pub TurnsIn : Bay MediumState → Machine → Turn → Machine → Type 0
TurnsIn (Loaded medium) old turn new =
    (medium.awake ≡ true) × (left : MediumState) × Turns medium turn left × (new ≡ after_turn turn left old)
TurnsIn _ old turn new = (turn ≡ Idle) × (new ≡ old)

-- the outcome of a turn: it was done, or the device failed (own)
abbrev pub turn_outcome : Turn → Result Unit Fault
turn_outcome Device = Err Writing
turn_outcome _ = Ok tt

-- a drive takes a flusher's turn, which makes nothing (own)
abbrev pub FlushTurns : Machine → Result Unit Fault → Made → Machine → Type 0
FlushTurns old outcome made new =
    (turn : Turn) × TurnsIn old.bay old turn new × (outcome ≡ turn_outcome turn) × (made ≡ made_nothing)
