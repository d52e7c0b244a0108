-- One ledger, as a contract sees it.
use Rattle.std.specs.Prelude.{ℕ}
use Rattle.ledgers.specs.Ledgers.{Gathered}

-- a ledger while changes are entered: how many were entered, and how many parties have no share yet (own)
pub record OpenState : Type 0 where
  pub total : ℕ
  pub left : ℕ

-- a ledger at the end: how many changes were entered, and what was gathered (own)
pub record ClosedState : Type 0 where
  pub total : ℕ
  pub gathered : Gathered
