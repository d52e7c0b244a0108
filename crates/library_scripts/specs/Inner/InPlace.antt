-- The seats of the hosts, each in the place of its host's number.
use Rattle.std.specs.Prelude.{◌≡◌, ◌<◌, ◌+◌, ℕ, List, length, slice_index_or}
use Rattle.vtl_base.specs.declared.limits.TheConstants.{NEXUSES}
use Rattle.library.specs.Seats.{SeatState}

-- each host has its place among these seats: that of its number, from 1 on
pub record AreInPlace (seats : List SeatState) : Type 0 where
  pub all : length seats ≡ NEXUSES
  pub each : (i : ℕ) (d : SeatState) → i < NEXUSES → (slice_index_or seats i d).nexus ≡ i + 1
