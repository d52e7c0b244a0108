-- What is in doubt of a file.
use Rattle.std.specs.Prelude.{◌≡◌, ◌⊎◌, ℕ, ◌<◌, ◌≤◌, List, true}
use Rattle.file_disk.specs.Opening.{BeginsWithGate, IsLeftWell, IsUnfinished}
use Rattle.file_disk.specs.RawFile.{ReachesAll}
use Rattle.file_disk.specs.declared.begins.Begins.{Begins}
use Rattle.file_disk.specs.declared.begins.Begins.TheVariants.{Cartridge, Other, Unfinished}
use Rattle.file_disk.specs.declared.doubt.Doubt.{Doubt}
use Rattle.file_disk.specs.declared.doubt.Doubt.TheVariants.{Nothing, Opened, SyncFailed}
use Rattle.file_disk.specs.declared.written.Span.{Span}
use Rattle.file_disk.specs.declared.written.Written.{Written}

-- the place lies in the range (own)
abbrev pub InSpan : Span → ℕ → Type 0
InSpan span place = (span.from ≤ place) × (place < span.end)

-- the place lies in one of the ranges, or nothing is known of the places (own)
abbrev pub Covers : Written → ℕ → Type 0
Covers written place =
    (written.is_apart ≡ true)
    ⊎ (InSpan written.one place ⊎ (InSpan written.other place ⊎ InSpan written.start place))

-- each of these places lies in the ranges (own)
abbrev pub LieIn : Written → (ℕ → Type 0) → Type 0
LieIn written places = (place : ℕ) → places place → Covers written place

-- What a sync passes over, and what it may pass over once it failed: nothing, and what was written; what an opening
-- finds; or what was written (own).
abbrev pub IsInDoubt : Doubt → Written → List ℕ → (ℕ → Type 0) → (ℕ → Type 0) → Type 0
IsInDoubt Nothing written seen passed_over unsynced = ReachesAll passed_over × LieIn written unsynced
IsInDoubt Opened written seen passed_over unsynced = IsLeftWell seen passed_over unsynced
IsInDoubt SyncFailed written seen passed_over unsynced = LieIn written passed_over × LieIn written unsynced

-- what the file holds was read (own)
abbrev pub IsLookedAt : Doubt → Type 0
IsLookedAt Nothing = Unit {0}
IsLookedAt Opened = ⊥
IsLookedAt SyncFailed = Unit {0}

-- the bytes of a file begin in this way (own)
abbrev pub BeginsSo : Begins → List ℕ → Type 0
BeginsSo Unfinished seen = IsUnfinished seen
BeginsSo Cartridge seen = IsUnfinished seen → ⊥
BeginsSo Other seen = (IsUnfinished seen → ⊥) × ((gate : ℕ) → BeginsWithGate gate seen → ⊥)
