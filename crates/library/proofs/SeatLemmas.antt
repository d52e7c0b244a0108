-- The seat of a new host.
use Rattle.std.proofs.Common.{◌≡◌, ℕ, subst}
use Rattle.library.specs.Counts.{new_seat}
use Rattle.library.specs.Seats.{SeatState}

-- a seat with a new share and a new count of moves
pub seat_of : (nexus share moves : ℕ) → share ≡ 0 → moves ≡ 0 → (seat : SeatState)
    → seat ≡ record { nexus = nexus; answered = 0; moved = moves; amount = share } → seat ≡ new_seat nexus
seat_of nexus share moves none nor seat is =
    subst (λ (m : ℕ). seat ≡ record { nexus = nexus; answered = 0; moved = m; amount = 0 }) nor
    (subst (λ (n : ℕ). seat ≡ record { nexus = nexus; answered = 0; moved = moves; amount = n }) none is)
