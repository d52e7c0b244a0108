-- RESERVE, RELEASE and CLEAR.
use Rattle.std.specs.Prelude.{ℕ, ◌==◌, ◌&&◌, Bool, Option, None, Some, if◌then◌else◌}
use Rattle.scsi_attention.specs.AttentionSets.{AttentionSet}
use Rattle.scsi_attention.specs.declared.attention_sets.Attention.TheVariants.{ReservationsReleased, ReservationsPreempted}
use Rattle.scsi_lists.specs.declared.actions.PrType.{PrType}
use Rattle.scsi_lists.specs.Actions.{type_number}
use Rattle.pr_core.specs.declared.states.Reservation.{Reservation}
use Rattle.pr_core.specs.declared.states.PrState.{PrState}
use Rattle.pr_core.specs.declared.states.PrAnswer.TheVariants.{Good, Conflict, BadRelease}
use Rattle.pr_core.specs.States.{others, holds_this, made_by, is_for_registrants}
use Rattle.pr_core.specs.Effects.{Effect, stays, establishes, establishes_none, raised}

-- two types are the same (own)
abbrev pub is_same_type : PrType → PrType → Bool
is_same_type one other = type_number one == type_number other

-- a reservation is made, and nothing else changes (SPC-4, RESERVE)
abbrev pub makes : Reservation → PrState → Effect
makes made state = record (stays Good state) { reservation = Some made }

-- A registered nexus reserves: where there is no reservation, one is made; where the nexus holds one of that type,
-- nothing changes; else it is a conflict (SPC-4, RESERVE).
abbrev pub reserve_under : Option Reservation → PrState → ℕ → PrType → Effect
reserve_under None state nexus kind = makes (made_by nexus kind) state
reserve_under (Some held) state nexus kind =
    if holds_this held state nexus && is_same_type held.kind kind then stays Good state else stays Conflict state

-- RESERVE by a registered nexus (SPC-4)
abbrev pub reserve : PrState → ℕ → PrType → Effect
reserve state nexus kind = reserve_under state.reservation state nexus kind

-- for types 5 to 8 the release is reported to the other registered nexuses (SPC-4, RELEASE)
abbrev pub established_by_release : Reservation → PrState → ℕ → ℕ → AttentionSet
established_by_release held state nexus =
    if is_for_registrants held.kind then establishes (others state nexus) ReservationsReleased else establishes_none

-- a holder releases its reservation; another type is refused (SPC-4, RELEASE)
abbrev pub release_held : Reservation → PrState → ℕ → PrType → Effect
release_held held state nexus kind =
    if is_same_type held.kind kind
    then record (stays Good state) { reservation = None; established = established_by_release held state nexus }
    else stays BadRelease state

-- a registered nexus releases a reservation; where there is none, or another holds it, nothing changes (SPC-4, RELEASE)
abbrev pub release_under : Option Reservation → PrState → ℕ → PrType → Effect
release_under None state nexus kind = stays Good state
release_under (Some held) state nexus kind =
    if holds_this held state nexus then release_held held state nexus kind else stays Good state

-- RELEASE by a registered nexus (SPC-4)
abbrev pub release : PrState → ℕ → PrType → Effect
release state nexus kind = release_under state.reservation state nexus kind

-- CLEAR by a registered nexus: all registrations and the reservation are removed, which is reported to the others;
-- APTPL stays (SPC-4)
abbrev pub clear : PrState → ℕ → Effect
clear state nexus = record (stays Good state) {
  keys = λ other. None;
  reservation = None;
  generation = raised state.generation;
  established = establishes (others state nexus) ReservationsPreempted;
}
