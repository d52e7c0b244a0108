-- How a state is spelled in the body of a frame.
use Rattle.std.specs.Prelude.{◌≡◌, ◌<◌, ◌^◌, ℕ, Bool, true, false, List, [], ◌∷◌, Option, None, Some, count_by, is_some, unwrap_or}
use Rattle.std.specs.List.{All, flat_map}
use Rattle.std.specs.Int.{to_be_bytes, w64}
use Rattle.scsi_lists.specs.Actions.{type_number}
use Rattle.pr_core.specs.declared.states.Reservation.{Reservation}
use Rattle.pr_core.specs.declared.states.PrState.{PrState}
use Rattle.pr_core.specs.Sets.{nexuses}
use Rattle.pr_core.specs.Sound.{IsSound}
use Rattle.pr_core.specs.States.{key_of}

-- the byte of APTPL (own)
abbrev pub aptpl_byte : Bool → ℕ
aptpl_byte false = 0
aptpl_byte true = 1

-- the byte of a reservation's type, 0 for no reservation (SPC-4, persistent reservation type)
abbrev pub type_byte : Option Reservation → ℕ
type_byte None = 0
type_byte (Some held) = type_number held.kind

-- the byte of a reservation's holder, 0 where it names none (own)
abbrev pub holder_byte : Option Reservation → ℕ
holder_byte None = 0
holder_byte (Some held) = unwrap_or held.holder 0

-- a nexus and its key, most significant byte first, where it is registered (own)
abbrev pub registration : Option ℕ → ℕ → List ℕ
registration None nexus = []
registration (Some key) nexus = nexus ∷ to_be_bytes w64 key

-- the registrations of a state, by rising nexus (own)
unfoldable pub registrations : PrState → List ℕ
registrations state = flat_map (λ nexus. registration (key_of state nexus) nexus) nexuses

-- The bytes of a state: APTPL, the type, the holder, the count of registrations, and the registrations. The generation
-- is not among them (own).
abbrev pub spell_state : PrState → List ℕ
spell_state state =
    aptpl_byte state.aptpl ∷ type_byte state.reservation ∷ holder_byte state.reservation ∷ count_by is_some state.keys
    ∷ registrations state

-- a key, if there is one, is a number of eight bytes (SPC-4, reservation key)
abbrev pub IsKey : Option ℕ → Type 0
IsKey None = Unit {0}
IsKey (Some key) = key < 2 ^ 64

-- a state that can be spelled: it meets the rules, and its keys have eight bytes (own)
pub record IsSavable (state : PrState) : Type 0 where
  pub sound : IsSound state
  pub keys : All IsKey state.keys

-- the bytes are the spelling of the state (own)
pub record SpellsState (state : PrState) (body : List ℕ) : Type 0 where
  pub savable : IsSavable state
  pub bytes : body ≡ spell_state state
