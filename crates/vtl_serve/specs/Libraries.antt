-- A library whose hosts are served at the same time over one pipe.
use Rattle.std.specs.Prelude.{◌≡◌, ◌⊎◌, ℕ, Bool, List, map, Option, Result, Err, IfOk}
use Rattle.tape_disk.specs.Disk.{DiskState}
use Rattle.library.specs.Seats.{SeatState}
use Rattle.bay_moves.specs.Elements.{BayState}
use Rattle.library.specs.Counts.{new_seat, which_are_there}
use Rattle.library.specs.Ends.{AddsUp, counts_of, sum_of_counts, sum_of_seats}
use Rattle.library.specs.declared.finishing.FinishError.{FinishError}
use Rattle.vtl_wire.specs.declared.faults.WireFault.{WireFault}
use Rattle.vtl_wire.specs.declared.faults.WireFault.TheVariants.{NoMemory}
use Rattle.vtl_hosts.specs.Turns.{ServesHosts}
use Rattle.vtl_serve.specs.declared.labels.Label.{Label}
use Rattle.vtl_serve.specs.Desks.{AnswersDesk, DeskState, TakesMemory, is_served}
use Rattle.vtl_serve.specs.OneHost.{AnswersHost, OneHostState}

-- the hosts of these seats, at a library with these drives (own)
abbrev pub hosts_of : List Bool → List SeatState → List OneHostState
hosts_of drives seats = map (λ seat. record { drives = drives; seat = seat }) seats

-- the seats of some hosts (own)
abbrev pub seats_of : List OneHostState → List SeatState
seats_of hosts = map (λ host. host.seat) hosts

module _ {D : Type 0} (state : D → DiskState) where
  -- The hosts of these seats were served over one pipe, with moves and inventories between their commands; or memory
  -- ran out before the first read. The operator made the moves that were answered, and no other (own).
  abbrev pub ServesOpened : List Bool → List Label → (moved : ℕ) → List SeatState → (left before : Option (List ℕ))
      → (moved' : ℕ) → List SeatState → (left' now : Option (List ℕ)) → Result (Unit {0}) WireFault → Type 0
  ServesOpened drives labels moved seats left before moved' seats' left' now outcome =
      ((hosts : List OneHostState) × (desk : DeskState)
      × ServesHosts (AnswersHost state) (λ desk request. is_served desk.drives request) (AnswersDesk state)
      (λ desk request. TakesMemory request)
      (record { hosts = hosts_of drives seats; desk = record { drives = drives; labels = labels; moved = moved } })
      left before
      (record { hosts = hosts; desk = desk }) left' now outcome
      × (seats' ≡ seats_of hosts) × (moved' ≡ desk.moved))
      ⊎ ((outcome ≡ Err NoMemory) × (seats' ≡ seats) × (moved' ≡ moved) × (left' ≡ left) × (now ≡ before))

  -- The same of hosts whose seats were new, and of an operator who had made no move; then the library ended: the sum of
  -- what its drives counted is that of what the seats grew by; the answers and the moves that are returned are those of
  -- the seats and of the operator after the serving, so none was added behind it; and where it ended well, what each
  -- drive counted is returned (own).
  pub record ServesShared (bays : List (Option (BayState D))) (labels : List Label) (hosts : List ℕ)
      (left before left' now : Option (List ℕ)) (outcome : Result (Unit {0}) WireFault)
      (bays' : List (Option (BayState D))) (counts : Result (List (Option ℕ)) FinishError) (answers moves : ℕ) : Type
      0 where
    pub seats : List SeatState
    pub moved : ℕ
    pub serves :
        ServesOpened (which_are_there bays) labels 0 (map new_seat hosts) left before moved seats left' now outcome
    pub reported : IfOk counts (λ counted. counted ≡ counts_of bays')
    pub sums : sum_of_counts (counts_of bays') ≡ sum_of_seats seats
    pub used : AddsUp seats moved answers moves
