-- Registrations and reservations: a state, and the sets of nexuses in it.
use Rattle.std.specs.Prelude.{ℕ, ◌==◌, ◌&&◌, ◌||◌, Bool, true, false, Option, None, Some, is_some, replicate, if◌then◌else◌}
use Rattle.vtl_base.specs.declared.limits.TheConstants.{NEXUSES}
use Rattle.scsi_lists.specs.declared.actions.PrType.{PrType}
use Rattle.scsi_lists.specs.declared.actions.PrType.TheVariants.{WriteExclusiveRegistrantsOnly, ExclusiveAccessRegistrantsOnly, WriteExclusiveAllRegistrants, ExclusiveAccessAllRegistrants}
use Rattle.pr_core.specs.declared.states.Reservation.{Reservation}
use Rattle.pr_core.specs.declared.states.PrState.{PrState}
use Rattle.pr_core.specs.Sets.{Nexuses, but, row_at}

-- a number is given, and it is this one (own)
abbrev pub is_number : Option ℕ → ℕ → Bool
is_number None number = false
is_number (Some one) number = one == number

-- a type that every registered nexus holds (SPC-4, All Registrants)
abbrev pub is_for_all : PrType → Bool
is_for_all WriteExclusiveAllRegistrants = true
is_for_all ExclusiveAccessAllRegistrants = true
is_for_all _ = false

-- a type with one holder, under which every registered nexus has access (SPC-4, Registrants Only)
abbrev pub is_for_registrants_only : PrType → Bool
is_for_registrants_only WriteExclusiveRegistrantsOnly = true
is_for_registrants_only ExclusiveAccessRegistrantsOnly = true
is_for_registrants_only _ = false

-- a type under which every registered nexus has access: types 5 to 8 (SPC-4, persistent reservation type)
abbrev pub is_for_registrants : PrType → Bool
is_for_registrants kind = is_for_registrants_only kind || is_for_all kind

-- the key of a nexus: a state is a map from nexuses to keys (SPC-4, registrations)
abbrev pub key_of : PrState → ℕ → Option ℕ
key_of state nexus = row_at None state.keys nexus

-- the registered nexuses (SPC-4, registrations)
abbrev pub is_registered : PrState → Nexuses
is_registered state nexus = is_some (key_of state nexus)

-- the nexuses that are registered with a key (SPC-4, registrations)
abbrev pub has_key : PrState → ℕ → Nexuses
has_key state key nexus = is_number (key_of state nexus) key

-- the registered nexuses without this one (own)
abbrev pub others : PrState → ℕ → Nexuses
others state nexus = but (is_registered state) nexus

-- who holds this reservation: one nexus, or every registered one (SPC-4, persistent reservation holder)
abbrev pub holds_this : Reservation → PrState → Nexuses
holds_this reservation state nexus =
    if is_for_all reservation.kind then is_registered state nexus else is_number reservation.holder nexus

-- the reservation that a nexus makes; one of types 7 and 8 names no holder (SPC-4, persistent reservation holder)
abbrev pub made_by : ℕ → PrType → Reservation
made_by nexus kind = record { kind = kind; holder = if is_for_all kind then None else Some nexus }

-- the commands of a nexus are let through under this reservation, if there is one (own, one rule for all types)
abbrev pub allows : Option Reservation → PrState → Nexuses
allows None state nexus = true
allows (Some reservation) state nexus =
    holds_this reservation state nexus || (is_for_registrants reservation.kind && is_registered state nexus)

-- The commands of a nexus are let through: under a reservation those of a holder, and under types 5 to 8 those of every
-- registered nexus (own, one rule for all types).
abbrev pub is_allowed : PrState → Nexuses
is_allowed state nexus = allows state.reservation state nexus

-- no registration and no reservation, APTPL not set, no order counted (SPC-4, power on)
abbrev pub empty_state : PrState
empty_state = record { keys = replicate NEXUSES None; reservation = None; aptpl = false; generation = 0 }

-- What a loss of power leaves: the generation is 0; registrations and reservation survive where APTPL is set, else they
-- are gone (SPC-4, persist through power loss).
abbrev pub power_loss : PrState → PrState
power_loss state = if state.aptpl then record state { generation = 0 } else empty_state
