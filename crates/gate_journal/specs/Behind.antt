-- Frames behind the end of a side.
use Rattle.std.specs.Prelude.{◌≡◌, ℕ, ◌+◌, List, ◌∷◌, ◌++◌, length, drop, Result, Ok, Err, Option, Some, None}
use Rattle.vtl_base.specs.declared.faults.DevFault.{DevFault}
use Rattle.tape_disk.specs.Disk.{DiskState}
use Rattle.gate_journal.specs.Answers.{IsFault, NoneFailed}
use Rattle.gate_journal.specs.Side.{OPEN, Front, IsBody, StandsFor, frame, spell}

-- the bytes behind a gate are the length and the body of a frame, and then an open gate (own)
abbrev pub HidesFrames : List ℕ → Type 0
HidesFrames behind =
    (body : List ℕ) × (more : List ℕ) × IsBody body × (OPEN ∷ behind ≡ frame body ++ OPEN ∷ more)

-- the bytes stand for a side whose end gate has that place, and frames stand behind it (own)
abbrev pub HasFramesBehind : List ℕ → ℕ → Type 0
HasFramesBehind seen at =
    (front : Front) × (bodies : List (List ℕ)) × StandsFor front bodies seen × (at ≡ length (spell front bodies))
    × HidesFrames (drop (at + 1) seen)

-- the end gate behind which frames stand; None where none do; or a fault (own)
abbrev pub FindsBehind : Result (Option ℕ) DevFault → DiskState → DiskState → Type 0
FindsBehind (Ok (Some at)) old new = NoneFailed old new × (old.honest → HasFramesBehind old.seen at)
FindsBehind (Ok None) old new = NoneFailed old new × (old.honest → (at : ℕ) → HasFramesBehind old.seen at → ⊥)
FindsBehind (Err fault) old new = IsFault fault old new
