-- Which drives a library has, and their counts of changes.
use Rattle.std.specs.Prelude.{◌≡◌, ℕ, ◌-◌, nat_le, Bool, false, List, slice_index_or, Option, None, Some, is_some, map, sum_by, if◌then◌else◌}
use Rattle.library.specs.Seats.{SeatState}
use Rattle.bay_moves.specs.Elements.{BayState}

-- there is a drive of this number, by a list that says it for each number from 1 on (own)
abbrev pub has_drive : List Bool → ℕ → Bool
has_drive row number = if nat_le 1 number then slice_index_or row (number - 1) false else false

module _ {X : Type 0} where
  -- for each place of a list, whether it is filled (own)
  abbrev pub which_are_there : List (Option X) → List Bool
  which_are_there row = map is_some row

  -- 1 for a value, 0 for none (own)
  abbrev pub one_if_there : Option X → ℕ
  one_if_there None = 0
  one_if_there (Some x) = 1

  -- how many places of a list are filled (own)
  abbrev pub places_filled : List (Option X) → ℕ
  places_filled row = sum_by one_if_there row

module _ {D : Type 0} where
  -- how many changes a drive has accepted, if there is one (own)
  abbrev pub count_of_drive : Option (BayState D) → Option ℕ
  count_of_drive None = None
  count_of_drive (Some bay) = Some bay.accepted

-- a count, or 0 for none (own)
abbrev pub or_none : Option ℕ → ℕ
or_none None = 0
or_none (Some count) = count

module _ {D : Type 0} where
  -- a drive, if there is one, has accepted no change since it was switched on (own)
  abbrev pub AcceptedNone : Option (BayState D) → Type 0
  AcceptedNone bay = or_none (count_of_drive bay) ≡ 0

-- the seat of a host that made no move, and for which nothing was entered yet (own)
abbrev pub new_seat : ℕ → SeatState
new_seat nexus = record { nexus = nexus; answered = 0; moved = 0; amount = 0 }
