-- How an earlier process has to leave a file.
use Rattle.std.specs.Prelude.{◌≡◌, ◌≢◌, ◌⊎◌, ℕ, ◌<◌, ◌≤◌, ◌+◌, ◌++◌, List, length}
use Rattle.vtl_base.specs.declared.layout.TheConstants.{BEGUN_BYTES, LENGTH_BYTES}
use Rattle.vtl_base.specs.declared.limits.TheConstants.{MAX_BODY}
use Rattle.gate_journal.specs.Gates.{last_gate}
use Rattle.gate_journal.specs.Side.{Front, OPEN, StandsFor, spell, start}
use Rattle.gate_journal.specs.declared.header.SideKind.TheVariants.{Cartridge}
use Rattle.file_disk.specs.RawFile.{ReachesAll}

-- how many bytes an append writes behind the end gate, at most: a length, the longest body and a gate (own)
abbrev pub MOST_BEHIND : ℕ
MOST_BEHIND = LENGTH_BYTES + MAX_BODY + 1

-- the place is one of those behind the end gate that an append may write, since it cuts the disk there first (own)
abbrev pub IsBehindEnd : (end place : ℕ) → Type 0
IsBehindEnd end place = (end < place) × (place ≤ end + MOST_BEHIND)

-- the place is that of the last open gate, or one that an append may write behind the end gate (own)
abbrev pub IsLastOrBehind : Front → List (List ℕ) → ℕ → Type 0
IsLastOrBehind front bodies place = (place ≡ last_gate front bodies) ⊎ IsBehindEnd (length (spell front bodies)) place

-- the place is one of the first ten of a cartridge's side, where it has two gates, or its last open gate, or one that
-- an append may write behind its end gate (own)
abbrev pub MayBeInDoubt : Front → List (List ℕ) → ℕ → Type 0
MayBeInDoubt front bodies place =
    ((front.head.heading.kind ≡ Cartridge) × (place < BEGUN_BYTES)) ⊎ IsLastOrBehind front bodies place

-- the bytes begin with the ten bytes of a cartridge's side whose own gate is this byte (own)
abbrev pub BeginsWithGate : ℕ → List ℕ → Type 0
BeginsWithGate gate seen = (pair : ℕ) × (rest : List ℕ) × (seen ≡ start gate Cartridge pair ++ rest)

-- the bytes are those of a cartridge's side that is being made, or written anew: fewer than ten, or ten whose own gate
-- is closed, and what stands behind them (own)
abbrev pub IsUnfinished : List ℕ → Type 0
IsUnfinished seen = (length seen < BEGUN_BYTES) ⊎ ((gate : ℕ) × (gate ≢ OPEN) × BeginsWithGate gate seen)

-- What a sync passes over, and what was written since the last good one. Where the bytes stand for a side, it is where
-- the side may be in doubt. Where they are those of an unfinished one, it may be anywhere. Where they are neither, a
-- sync passes over nothing (own).
pub record IsLeftWell (seen : List ℕ) (passed_over unsynced : ℕ → Type 0) : Type 0 where
  pub side : (front : Front) (bodies : List (List ℕ)) → StandsFor front bodies seen
      → (place : ℕ) → passed_over place ⊎ unsynced place → MayBeInDoubt front bodies place
  pub none : ((front : Front) (bodies : List (List ℕ)) → StandsFor front bodies seen → ⊥)
      → (IsUnfinished seen → ⊥) → ReachesAll passed_over
