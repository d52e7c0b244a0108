-- Sets of unit attention conditions.
use Rattle.std.specs.Prelude.{◌||◌, Bool, true, false, List, [], ◌∷◌, Option, find}
use Rattle.scsi_attention.specs.declared.attention_sets.Attention.{Attention}
use Rattle.scsi_attention.specs.declared.attention_sets.Attention.TheVariants.{PowerOn, MediumChanged, ReservationsPreempted, RegistrationsPreempted, ReservationsReleased, ModeChanged}

-- which conditions are established for one nexus (SAM-5, unit attention condition)
pub record AttentionSet : Type 0 where
  pub power_on : Bool
  pub medium_changed : Bool
  pub reservations_preempted : Bool
  pub registrations_preempted : Bool
  pub reservations_released : Bool
  pub mode_changed : Bool

-- no condition (own)
abbrev pub no_attentions : AttentionSet
no_attentions = record {
  power_on = false;
  medium_changed = false;
  reservations_preempted = false;
  registrations_preempted = false;
  reservations_released = false;
  mode_changed = false;
}

-- a condition is in a set (own)
abbrev pub contains : Attention → AttentionSet → Bool
contains PowerOn set = set.power_on
contains MediumChanged set = set.medium_changed
contains ReservationsPreempted set = set.reservations_preempted
contains RegistrationsPreempted set = set.registrations_preempted
contains ReservationsReleased set = set.reservations_released
contains ModeChanged set = set.mode_changed

-- a set in which one condition is established or not, and the others stay (own)
abbrev pub set_to : Bool → Attention → AttentionSet → AttentionSet
set_to established PowerOn set = record set { power_on = established }
set_to established MediumChanged set = record set { medium_changed = established }
set_to established ReservationsPreempted set = record set { reservations_preempted = established }
set_to established RegistrationsPreempted set = record set { registrations_preempted = established }
set_to established ReservationsReleased set = record set { reservations_released = established }
set_to established ModeChanged set = record set { mode_changed = established }

-- a set after a condition is established (SAM-5, unit attention condition)
abbrev pub with_attention : Attention → AttentionSet → AttentionSet
with_attention attention set = set_to true attention set

-- a set after a condition is cleared (SAM-5, unit attention condition)
abbrev pub without : Attention → AttentionSet → AttentionSet
without attention set = set_to false attention set

-- the order in which conditions are reported (own)
abbrev pub in_order : List Attention
in_order =
    PowerOn ∷ MediumChanged ∷ ReservationsPreempted ∷ RegistrationsPreempted ∷ ReservationsReleased ∷ ModeChanged ∷ []

-- the condition of a set that is reported first (own)
abbrev pub first_of : AttentionSet → Option Attention
first_of set = find (λ attention. contains attention set) in_order

-- the conditions that are in one of two sets, or in both (own)
abbrev pub union : AttentionSet → AttentionSet → AttentionSet
union one other = record {
  power_on = one.power_on || other.power_on;
  medium_changed = one.medium_changed || other.medium_changed;
  reservations_preempted = one.reservations_preempted || other.reservations_preempted;
  registrations_preempted = one.registrations_preempted || other.registrations_preempted;
  reservations_released = one.reservations_released || other.reservations_released;
  mode_changed = one.mode_changed || other.mode_changed;
}
