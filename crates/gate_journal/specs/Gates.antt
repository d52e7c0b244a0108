-- The last gates of a side.
use Rattle.std.specs.Prelude.{◌≡◌, ℕ, List, [], ◌∷◌, length, take, Result, Ok, Err, Option, Some, None}
use Rattle.vtl_base.specs.declared.faults.DevFault.{DevFault}
use Rattle.tape_disk.specs.Disk.{DiskState}
use Rattle.gate_journal.specs.declared.gates.Gates.{Gates}
use Rattle.gate_journal.specs.Answers.{IsFault, NoneFailed}
use Rattle.gate_journal.specs.Side.{Front, StandsFor, spell}

-- the place of the last open gate: that of the last frame, or of the side where it has no frame (own)
abbrev pub last_gate : Front → List (List ℕ) → ℕ
last_gate front [] = 0
last_gate front (body ∷ bodies) = length (spell front (take (length bodies) (body ∷ bodies)))

-- the last gates of the side that the bytes stand for; None where they stand for no side; or a fault (own)
abbrev pub FindsGates : Result (Option Gates) DevFault → DiskState → DiskState → Type 0
FindsGates (Ok (Some gates)) old new =
    NoneFailed old new
    × (old.honest → (front : Front) × (bodies : List (List ℕ)) × StandsFor front bodies old.seen
    × (gates.last ≡ last_gate front bodies) × (gates.end ≡ length (spell front bodies)))
FindsGates (Ok None) old new =
    NoneFailed old new
    × (old.honest → (front : Front) (bodies : List (List ℕ)) → StandsFor front bodies old.seen → ⊥)
FindsGates (Err fault) old new = IsFault fault old new
