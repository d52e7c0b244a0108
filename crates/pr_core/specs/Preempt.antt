-- PREEMPT, in four cases: the first that fits holds.
use Rattle.std.specs.Prelude.{ℕ, ◌==◌, ◌&&◌, not, Bool, Option, None, Some, if◌then◌else◌}
use Rattle.scsi_attention.specs.AttentionSets.{AttentionSet, no_attentions}
use Rattle.scsi_attention.specs.declared.attention_sets.Attention.TheVariants.{RegistrationsPreempted, ReservationsReleased}
use Rattle.scsi_lists.specs.declared.actions.PrType.{PrType}
use Rattle.pr_core.specs.declared.states.Reservation.{Reservation}
use Rattle.pr_core.specs.declared.states.PrState.{PrState}
use Rattle.pr_core.specs.declared.states.PrAnswer.TheVariants.{Good, Conflict, BadType, BadKey}
use Rattle.pr_core.specs.Sets.{Nexuses, but, is_named_in, is_some_in, minus}
use Rattle.pr_core.specs.States.{others, has_key, made_by, is_for_all}
use Rattle.pr_core.specs.Effects.{Effect, stays, only, establishes, raised, keys_without}
use Rattle.pr_core.specs.Reserve.{is_same_type}

-- the nexuses registered with the key, without the requester (SPC-4, PREEMPT; the requester own)
abbrev pub preempted_by : PrState → ℕ → ℕ → Nexuses
preempted_by state nexus key = but (has_key state key) nexus

-- the other nexuses that stay registered, where the type changes: the release is reported to them (own)
abbrev pub released_by_type : PrState → ℕ → Nexuses → PrType → PrType → Nexuses
released_by_type state nexus removed was kind other =
    not (is_same_type was kind) && minus (others state nexus) removed other

-- The conditions of a preemption: registrations preempted for the removed nexuses, reservations released for some
-- others (SPC-4, PREEMPT).
abbrev pub established_by_preemption : Nexuses → Nexuses → ℕ → AttentionSet
established_by_preemption removed released nexus =
    if removed nexus then only RegistrationsPreempted
    else if released nexus then only ReservationsReleased else no_attentions

-- some registrations are removed, and the requester gets a reservation of this type in place of one of another (SPC-4,
-- PREEMPT)
abbrev pub takes_over : PrState → ℕ → Nexuses → PrType → PrType → Effect
takes_over state nexus removed was kind = record (stays Good state) {
  keys = keys_without state removed;
  reservation = Some (made_by nexus kind);
  generation = raised state.generation;
  established = established_by_preemption removed (released_by_type state nexus removed was kind);
}

-- the same by the block's scope and type: it is refused where no reservation has these (own)
abbrev pub takes_over_as : Option PrType → PrState → ℕ → Nexuses → PrType → Effect
takes_over_as None state nexus removed was = stays BadType state
takes_over_as (Some kind) state nexus removed was = takes_over state nexus removed was kind

-- Case 1: the key is 0. Under types 7 and 8 all others are removed and the requester's reservation replaces the old
-- one; else the key is refused (SPC-4, PREEMPT).
abbrev pub preempt_zero : Option Reservation → PrState → ℕ → Option PrType → Effect
preempt_zero None state nexus kind = stays BadKey state
preempt_zero (Some held) state nexus kind =
    if is_for_all held.kind then takes_over_as kind state nexus (others state nexus) held.kind else stays BadKey state

-- Case 2: no nexus is registered with the key, which is a conflict (SPC-4, PREEMPT).
abbrev pub preempt_unknown : PrState → Effect
preempt_unknown state = stays Conflict state

-- Case 3: the key is that of the single holder. The registrations with it are removed, and the requester gets a
-- reservation of the block's type (SPC-4, PREEMPT).
abbrev pub preempt_holder : Reservation → PrState → ℕ → ℕ → Option PrType → Effect
preempt_holder held state nexus key kind = takes_over_as kind state nexus (preempted_by state nexus key) held.kind

-- Case 4: the registrations with the key are removed, and the reservation stays (SPC-4, PREEMPT).
abbrev pub preempt_registrants : PrState → ℕ → ℕ → Effect
preempt_registrants state nexus key = record (stays Good state) {
  keys = keys_without state (preempted_by state nexus key);
  generation = raised state.generation;
  established = establishes (preempted_by state nexus key) RegistrationsPreempted;
}

-- the key is that of the single holder of this reservation (SPC-4, PREEMPT)
abbrev pub is_key_of_holder : Reservation → PrState → ℕ → Bool
is_key_of_holder held state key =
    not (is_for_all held.kind) && is_named_in held.holder (has_key state key)

-- cases 3 and 4, by the reservation (SPC-4, PREEMPT)
abbrev pub preempt_known : Option Reservation → PrState → ℕ → ℕ → Option PrType → Effect
preempt_known None state nexus key kind = preempt_registrants state nexus key
preempt_known (Some held) state nexus key kind =
    if is_key_of_holder held state key then preempt_holder held state nexus key kind
    else preempt_registrants state nexus key

-- PREEMPT by a registered nexus: the first case that fits (SPC-4)
abbrev pub preempt : PrState → ℕ → ℕ → Option PrType → Effect
preempt state nexus key kind =
    if key == 0 then preempt_zero state.reservation state nexus kind
    else if is_some_in (has_key state key) then preempt_known state.reservation state nexus key kind
    else preempt_unknown state
