-- The seats of hosts, as a contract sees them.
use Rattle.std.specs.Prelude.{ℕ}

-- the nexus of a host, how many of its commands were answered, how many moves it made, and how many changes were
-- entered for it (own)
pub record SeatState : Type 0 where
  pub nexus : ℕ
  pub answered : ℕ
  pub moved : ℕ
  pub amount : ℕ
