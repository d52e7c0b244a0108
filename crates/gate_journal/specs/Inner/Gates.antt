-- How the last gates of a side are found.
use Rattle.std.specs.Prelude.{◌≡◌, ◌≢◌, ◌≤◌, ◌==◌, if◌then◌else◌, ℕ, ◌-◌, List, ◌∷◌, length, drop, Result, Ok, Err, Some, slice_index_or}
use Rattle.vtl_base.specs.declared.layout.TheConstants.{FRAME_HEAD}
use Rattle.tape_disk.specs.Disk.{DiskState}
use Rattle.gate_journal.specs.declared.error.JournalError.{JournalError}
use Rattle.gate_journal.specs.declared.gates.Gates.{Gates}
use Rattle.gate_journal.specs.Answers.{NoneFailed}
use Rattle.gate_journal.specs.Gates.{FindsGates}
use Rattle.gate_journal.specs.Inner.Found.{BreaksOff, NotRead, Walked}
use Rattle.gate_journal.specs.Side.{OPEN, IsNotOurs, IsDamagedAt}

-- the last open gate of a side with these extents: that of the last frame, or of the side where it has no frame (own)
abbrev pub gate_before : List (ℕ × ℕ) → ℕ
gate_before extents =
    if length extents == 0 then 0 else (slice_index_or extents (length extents - 1) (0, 0)).0 - FRAME_HEAD

-- the last gates of the frames from the start up to a closed gate, at least as many as the base; or the place where the
-- frames break off (own)
abbrev pub FindsLast : Result Gates JournalError → ℕ → ℕ → DiskState → DiskState → Type 0
FindsLast (Ok gates) start base old new =
    NoneFailed old new
    × (old.honest
    → ((bodies : List (List ℕ)) × (extents : List (ℕ × ℕ)) × Walked old.seen start bodies extents gates.end
    × (gates.last ≡ gate_before extents) × (base ≤ length bodies))
    × ((gate : ℕ) × (rest : List ℕ) × (gate ≢ OPEN) × (drop gates.end old.seen ≡ gate ∷ rest)))
FindsLast (Err error) start base old new =
    NotRead error ⊥ (λ at. old.honest → BreaksOff old.seen start base at) ⊥ old new

-- the last gates of a whole side, or why there is none (own)
abbrev pub FindsWhole : Result Gates JournalError → DiskState → DiskState → Type 0
FindsWhole (Ok gates) old new = FindsGates (Ok (Some gates)) old new
FindsWhole (Err error) old new =
    NotRead error (old.honest → IsNotOurs old.seen) (λ at. old.honest → IsDamagedAt old.seen at) ⊥ old new
