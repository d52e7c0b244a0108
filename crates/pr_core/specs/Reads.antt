-- The data of PERSISTENT RESERVE IN.
use Rattle.std.specs.Prelude.{ℕ, ◌++◌, List, [], ◌∷◌, length, Option, None, Some, unwrap_or}
use Rattle.std.specs.List.{flat_map}
use Rattle.std.specs.Int.{to_be_bytes, w32, w64}
use Rattle.scsi_lists.specs.Actions.{type_number}
use Rattle.pr_core.specs.declared.states.Reservation.{Reservation}
use Rattle.pr_core.specs.declared.states.PrState.{PrState}
use Rattle.pr_core.specs.States.{key_of}

-- the eight bytes of a key, most significant first, if there is one (SPC-4, READ KEYS)
abbrev pub key_bytes : Option ℕ → List ℕ
key_bytes None = []
key_bytes (Some key) = to_be_bytes w64 key

-- PRGENERATION and the length of the rest, in four bytes each, and the rest (SPC-4, PERSISTENT RESERVE IN)
abbrev pub headed : ℕ → List ℕ → List ℕ
headed generation rest = to_be_bytes w32 generation ++ to_be_bytes w32 (length rest) ++ rest

-- the data of READ KEYS: the keys by rising nexus (SPC-4, READ KEYS)
abbrev pub keys_read : PrState → List ℕ
keys_read state = headed state.generation (flat_map key_bytes state.keys)

-- the key of the holder that a reservation names, or 0 where it names none (SPC-4, READ RESERVATION)
abbrev pub holder_key : Option ℕ → PrState → ℕ
holder_key None state = 0
holder_key (Some nexus) state = unwrap_or (key_of state nexus) 0

-- the 16 bytes of a reservation: the holder's key, four zeros, a zero, scope and type, two zeros; the scope is 0
-- (SPC-4, READ RESERVATION)
abbrev pub reservation_bytes : Option Reservation → PrState → List ℕ
reservation_bytes None state = []
reservation_bytes (Some held) state =
    to_be_bytes w64 (holder_key held.holder state) ++ (0 ∷ 0 ∷ 0 ∷ 0 ∷ 0 ∷ type_number held.kind ∷ 0 ∷ 0 ∷ [])

-- the data of READ RESERVATION: without a reservation nothing follows the length (SPC-4, READ RESERVATION)
abbrev pub reservation_read : PrState → List ℕ
reservation_read state = headed state.generation (reservation_bytes state.reservation state)
