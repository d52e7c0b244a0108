-- When a state must be saved.
use Rattle.std.specs.Prelude.{◌≡◌, ◌==◌, ◌&&◌, ◌||◌, not, ℕ, Bool, true, false, Option, None, Some}
use Rattle.pr_core.specs.declared.states.Reservation.{Reservation}
use Rattle.pr_core.specs.declared.states.PrState.{PrState}
use Rattle.pr_core.specs.Sets.{Nexuses, is_some_in}
use Rattle.pr_core.specs.States.{key_of}
use Rattle.pr_core.specs.Reserve.{is_same_type}

-- two optional numbers are the same (own)
abbrev pub is_same_number : Option ℕ → Option ℕ → Bool
is_same_number None None = true
is_same_number (Some one) (Some other) = one == other
is_same_number _ _ = false

-- two optional reservations are the same, in type and holder (own)
abbrev pub is_same_reservation : Option Reservation → Option Reservation → Bool
is_same_reservation None None = true
is_same_reservation (Some one) (Some other) = is_same_type one.kind other.kind && is_same_number one.holder other.holder
is_same_reservation _ _ = false

-- the nexuses whose keys differ between two states (own)
abbrev pub differ_at : PrState → PrState → Nexuses
differ_at old new nexus = not (is_same_number (key_of old nexus) (key_of new nexus))

-- APTPL differs (own)
abbrev pub is_other_aptpl : Bool → Bool → Bool
is_other_aptpl true now = not now
is_other_aptpl false now = now

-- a state is to be saved in place of another: registrations, reservation or APTPL differ (own)
abbrev pub needs_save : PrState → PrState → Bool
needs_save old new =
    is_some_in (differ_at old new) || (not (is_same_reservation old.reservation new.reservation)
    || is_other_aptpl old.aptpl new.aptpl)

-- the saved fields of two states are the same: registrations, reservation and APTPL (own)
pub record AreSavedAlike (one other : PrState) : Type 0 where
  pub keys : one.keys ≡ other.keys
  pub reservation : one.reservation ≡ other.reservation
  pub aptpl : one.aptpl ≡ other.aptpl
