-- REGISTER, REGISTER AND IGNORE EXISTING KEY, and unregistering.
use Rattle.std.specs.Prelude.{ℕ, ◌==◌, ◌&&◌, not, Bool, Option, None, Some, if◌then◌else◌}
use Rattle.scsi_attention.specs.AttentionSets.{AttentionSet}
use Rattle.scsi_attention.specs.declared.attention_sets.Attention.TheVariants.{ReservationsReleased}
use Rattle.pr_core.specs.declared.states.Reservation.{Reservation}
use Rattle.pr_core.specs.declared.states.PrState.{PrState}
use Rattle.pr_core.specs.declared.states.PrAnswer.TheVariants.{Good, Conflict}
use Rattle.pr_core.specs.Sets.{is_some_in}
use Rattle.pr_core.specs.States.{key_of, others, is_for_all, is_for_registrants_only, is_number}
use Rattle.pr_core.specs.Effects.{Effect, stays, establishes, establishes_none, raised, keys_without, with_key}

-- a nexus is registered with a key, which replaces the old one (SPC-4, REGISTER)
abbrev pub registers : PrState → ℕ → ℕ → Bool → Effect
registers state nexus key aptpl =
    record (stays Good state) { keys = with_key state nexus key; aptpl = aptpl; generation = raised state.generation }

-- this reservation ends when a nexus unregisters: the nexus is its holder or, for types 7 and 8, the last registered
-- one (SPC-4, unregistering)
abbrev pub ends_without : Reservation → PrState → ℕ → Bool
ends_without reservation state nexus =
    if is_for_all reservation.kind then not (is_some_in (others state nexus)) else is_number reservation.holder nexus

-- the reservation after a nexus unregisters (SPC-4, unregistering)
abbrev pub left_without : Option Reservation → PrState → ℕ → Option Reservation
left_without None state nexus = None
left_without (Some reservation) state nexus =
    if ends_without reservation state nexus then None else Some reservation

-- where a reservation of types 5 or 6 ends because its holder unregisters, the release is reported to the others
-- (SPC-4, unregistering)
abbrev pub established_without : Option Reservation → PrState → ℕ → ℕ → AttentionSet
established_without None state nexus = establishes_none
established_without (Some reservation) state nexus =
    if is_for_registrants_only reservation.kind && ends_without reservation state nexus
    then establishes (others state nexus) ReservationsReleased else establishes_none

-- a registered nexus is unregistered (SPC-4, unregistering)
abbrev pub unregisters : PrState → ℕ → Bool → Effect
unregisters state nexus aptpl = record {
  answer = Good;
  keys = keys_without state (λ other. other == nexus);
  reservation = left_without state.reservation state nexus;
  aptpl = aptpl;
  generation = raised state.generation;
  established = established_without state.reservation state nexus;
}

-- the key 0 unregisters a nexus; where the nexus is not registered, nothing changes (SPC-4, REGISTER)
abbrev pub zero_key : Option ℕ → PrState → ℕ → Bool → Effect
zero_key None state nexus aptpl = stays Good state
zero_key (Some own) state nexus aptpl = unregisters state nexus aptpl

-- REGISTER AND IGNORE EXISTING KEY: the registered key does not matter (SPC-4)
abbrev pub register_and_ignore : PrState → ℕ → ℕ → Bool → Effect
register_and_ignore state nexus key aptpl =
    if key == 0 then zero_key (key_of state nexus) state nexus aptpl else registers state nexus key aptpl

-- a nexus gives its own key, or the key 0 where it is not registered (SPC-4, REGISTER)
abbrev pub shows_key : Option ℕ → ℕ → Bool
shows_key None key = key == 0
shows_key (Some own) key = own == key

-- REGISTER: the same, where the nexus gives its own key (SPC-4)
abbrev pub register : PrState → ℕ → ℕ → ℕ → Bool → Effect
register state nexus key new_key aptpl =
    if shows_key (key_of state nexus) key then register_and_ignore state nexus new_key aptpl else stays Conflict state
