-- The rules that each state meets.
use Rattle.std.specs.Prelude.{◌≡◌, ◌&&◌, Bool, true, false, Option, None, Some, length, is_none, if◌then◌else◌}
use Rattle.vtl_base.specs.declared.limits.TheConstants.{NEXUSES}
use Rattle.pr_core.specs.declared.states.Reservation.{Reservation}
use Rattle.pr_core.specs.declared.states.PrState.{PrState}
use Rattle.pr_core.specs.Sets.{is_named_in, is_some_in}
use Rattle.pr_core.specs.States.{has_key, is_registered, is_for_all}

-- The holder of a reservation is valid: for types 7 and 8 it names none, and some nexus is registered; for another type
-- it names one, who is registered (SPC-4, persistent reservation holder).
abbrev pub is_held_rightly : Option Reservation → PrState → Bool
is_held_rightly None state = true
is_held_rightly (Some held) state =
    if is_for_all held.kind then is_none held.holder && is_some_in (is_registered state)
    else is_named_in held.holder (is_registered state)

-- A state meets the rules: it has one place for each nexus, no nexus is registered with the key 0, and the holder of
-- the reservation is valid (own).
pub record IsSound (state : PrState) : Type 0 where
  pub all : length state.keys ≡ NEXUSES
  pub keys : is_some_in (has_key state 0) ≡ false
  pub held : is_held_rightly state.reservation state ≡ true
