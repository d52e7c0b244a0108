-- States as plain data, for the views of types and for ghost notes.
use Rattle.std.specs.Prelude.{◌≡◌, ℕ, List, Bool, Option, unwrap_or, refl}
use Rattle.std.specs.Coded.{Coded, code_by, coded×, coded_ℕ, coded_bool, coded_list, coded_option}
use Rattle.scsi_lists.specs.declared.actions.PrType.{PrType}
use Rattle.scsi_lists.specs.declared.actions.PrType.TheVariants.{WriteExclusive, ExclusiveAccess, WriteExclusiveRegistrantsOnly, ExclusiveAccessRegistrantsOnly, WriteExclusiveAllRegistrants, ExclusiveAccessAllRegistrants}
use Rattle.scsi_lists.specs.Actions.{type_number, type_of}
use Rattle.pr_core.specs.declared.states.Reservation.{Reservation}
use Rattle.pr_core.specs.declared.states.PrState.{PrState}
use Rattle.aptpl_store.specs.NotedStates.{NotedStates}

-- the type with this number, if it is the number of one (own)
abbrev type_again : ℕ → PrType
type_again number = unwrap_or (type_of number) WriteExclusive

-- the number of a type gives the type
pub same_type : (kind : PrType) → type_again (type_number kind) ≡ kind
same_type WriteExclusive = refl
same_type ExclusiveAccess = refl
same_type WriteExclusiveRegistrantsOnly = refl
same_type ExclusiveAccessRegistrantsOnly = refl
same_type WriteExclusiveAllRegistrants = refl
same_type ExclusiveAccessAllRegistrants = refl

-- a reservation as plain data (own)
abbrev pub reservation_code : Coded Reservation
reservation_code =
    code_by (ℕ × Option ℕ) (coded× coded_ℕ (coded_option coded_ℕ)) (λ held. (type_number held.kind, held.holder))
    (λ p. record { kind = type_again p.0; holder = p.1 })
    (λ held. λ i. record { kind = same_type held.kind i; holder = held.holder })

-- a state as plain data (own)
abbrev pub state_code : Coded PrState
state_code =
    code_by (List (Option ℕ) × (Option Reservation × (Bool × ℕ)))
    (coded× (coded_list (coded_option coded_ℕ)) (coded× (coded_option reservation_code) (coded× coded_bool coded_ℕ)))
    (λ s. (s.keys, (s.reservation, (s.aptpl, s.generation))))
    (λ p. record { keys = p.0; reservation = p.1.0; aptpl = p.1.1.0; generation = p.1.1.1 }) (λ _. refl)

-- the notes of a side as plain data (own)
abbrev pub noted_states_code : Coded NotedStates
noted_states_code =
    code_by (List PrState × Option PrState) (coded× (coded_list state_code) (coded_option state_code))
    (λ n. (n.states, n.torn)) (λ p. record { states = p.0; torn = p.1 }) (λ _. refl)
