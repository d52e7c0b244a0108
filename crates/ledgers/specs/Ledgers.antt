-- Two ledgers, one of the bays and one of the hosts, as a contract sees them.
use Rattle.std.specs.Prelude.{◌≡◌, ℕ, ◌+◌}
use Rattle.std.specs.declared.sync.ledger.Blank.{Blank}

-- the blank ledger has this name and these parts, one for each of its parties (own)
pub record IsBlankOf (blank : Blank) (name parts all : ℕ) : Type 0 where
  pub named : blank.name ≡ name
  pub cut : blank.parts ≡ parts
  pub one_each : parts ≡ all

-- Both ledgers while changes are entered: how many were entered, the same number in each, and how many bays and hosts
-- have no share yet (own).
pub record TallyState : Type 0 where
  pub total : ℕ
  pub bays_left : ℕ
  pub hosts_left : ℕ

-- what was gathered of a ledger: how many shares, and how many changes were entered for them (own)
pub record Gathered : Type 0 where
  pub shares : ℕ
  pub changes : ℕ

-- no share (own)
abbrev pub no_share : Gathered
no_share = record { shares = 0; changes = 0 }

-- one more share, for which `changes` changes were entered (own)
abbrev pub and_share : Gathered → ℕ → Gathered
and_share gathered changes = record { shares = gathered.shares + 1; changes = gathered.changes + changes }

-- Both ledgers at the end: how many changes were entered in each, and what was gathered of the bays and of the hosts
-- (own).
pub record GatheringState : Type 0 where
  pub total : ℕ
  pub bays : Gathered
  pub hosts : Gathered
