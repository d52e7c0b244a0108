-- The end of a library that threads shared.
use Rattle.std.specs.Prelude.{◌≡◌, ◌≢◌, ◌<◌, ◌≤◌, ◌+◌, ◌%◌, ◌^◌, ℕ, List, Option, Result, Err, IfErr, map, sum_by}
use Rattle.tape_disk.specs.Disk.{DiskState}
use Rattle.library.specs.Seats.{SeatState}
use Rattle.tape_buffer.specs.State.{BufferState}
use Rattle.bay_moves.specs.Elements.{BayState, bay_at}
use Rattle.bay_moves.specs.Finish.{HasFailedAt, IsWrittenAt}
use Rattle.library.specs.Counts.{count_of_drive, or_none, which_are_there}
use Rattle.library.specs.Keeps.{AreLeft}
use Rattle.library.specs.declared.finishing.FinishError.{FinishError}
use Rattle.library.specs.declared.finishing.FinishError.TheVariants.{Unwritten, SeatsMissing}

-- the sum of the amounts of all seats (own)
abbrev pub sum_of_seats : List SeatState → ℕ
sum_of_seats seats = sum_by (λ seat. seat.amount) seats

-- how many commands were answered for the hosts of these seats, all together (own)
abbrev pub sum_of_answers : List SeatState → ℕ
sum_of_answers seats = sum_by (λ seat. seat.answered) seats

-- how many moves the hosts of these seats made, all together (own)
abbrev pub sum_of_moves : List SeatState → ℕ
sum_of_moves seats = sum_by (λ seat. seat.moved) seats

-- The answers of these seats are added up, and so are their moves with those of the operator, both modulo 2^64 (own).
pub record AddsUp (seats : List SeatState) (operator answered moved : ℕ) : Type 0 where
  pub answers : answered ≡ sum_of_answers seats % 2 ^ 64
  pub moves : moved ≡ (sum_of_moves seats + operator) % 2 ^ 64

module _ {D : Type 0} where
  -- the count of each drive, from number 1 on (own)
  abbrev pub counts_of : List (Option (BayState D)) → List (Option ℕ)
  counts_of bays = map count_of_drive bays

-- the sum of the counts of drives (own)
abbrev pub sum_of_counts : List (Option ℕ) → ℕ
sum_of_counts counts = sum_by or_none counts

-- where seats are missing, both sums are reported, and that of the seats is below that of the drives (own)
abbrev pub IsShort : FinishError → ℕ → ℕ → Type 0
IsShort Unwritten counted held = Unit {0}
IsShort (SeatsMissing total seats) counted held = (total ≡ counted) × (seats ≡ held) × (held < counted)

-- The returned seats have together at most what the drives counted. With as many seats as hosts it is exactly that,
-- even where not all is written out, and no seat is missing. If seats are missing, the sums are short (own).
pub record Balances (seats hosts counted held : ℕ) (counts : Result (List (Option ℕ)) FinishError) : Type 0 where
  pub within : held ≤ counted
  pub same : seats ≡ hosts → counted ≡ held
  pub all : seats ≡ hosts → IfErr counts (λ error. error ≡ Unwritten)
  pub missing : IfErr counts (λ error. IsShort error counted held)

module _ {D : Type 0} (state : D → DiskState) where
  -- A library with the same drives as before ended with these slots and drives. Each drive took a turn at the end, and
  -- slots and drives have their invariants. Nothing is left to write and no deferred error stands, or a drive has
  -- failed, and the end says so; no seat is missing (own).
  pub record EndsShared
      (bays bays' : List (Option (BayState D))) (slots' : List (Option (BufferState D)))
      (counts : Result (List (Option ℕ)) FinishError) : Type 0 where
    pub drives : which_are_there bays' ≡ which_are_there bays
    pub left : AreLeft state slots' bays'
    pub unwritten :
        counts ≡ Err Unwritten → (number : ℕ) × HasFailedAt state (bay_at bays' number)
    pub written : counts ≢ Err Unwritten → (number : ℕ) → IsWrittenAt state (bay_at bays' number)
    pub all : IfErr counts (λ error. error ≡ Unwritten)
