-- How a block is read, from what is pending or from the disk.
use Rattle.std.specs.Prelude.{◌≡◌, ◌<◌, ℕ, List, length, Bool, true, false, Result, Ok, Err}
use Rattle.volume_core.specs.declared.media.MediumError.{MediumError}
use Rattle.volume_core.specs.declared.media.MediumError.TheVariants.{NoMemory, Device}

-- these bytes are a copy of the block, or memory ran out, since the capacity of what was given is less than the block
-- has bytes (own)
abbrev pub IsCopyOf : List ℕ → ℕ → Result Unit MediumError → List ℕ → Type 0
IsCopyOf block capacity (Ok done) bytes = bytes ≡ block
IsCopyOf block capacity (Err NoMemory) bytes = capacity < length block
IsCopyOf block capacity (Err _) bytes = ⊥

-- A block was read from a disk, memory ran out, for this cause, or the disk failed. The two numbers are how many calls
-- had failed before, and have failed now (own).
abbrev pub IsFetched : Result Unit MediumError → Type 0 → Bool → ℕ → ℕ → Type 0
IsFetched (Ok done) memory failed before now = (failed ≡ false) × (now ≡ before)
IsFetched (Err NoMemory) memory failed before now = (failed ≡ false) × (now ≡ before) × memory
IsFetched (Err Device) memory failed before now = (failed ≡ true) × (before < now)
IsFetched (Err _) memory failed before now = ⊥
