-- The state that bytes spell, if they spell any.
use Rattle.std.specs.Prelude.{◌&&◌, ◌==◌, ◌-◌, ℕ, Bool, nat_le, List, [], ◌∷◌, length, drop, slice_index, Option, None, Some, if◌then◌else◌}
use Rattle.std.specs.List.{flat_map, range_with_len}
use Rattle.byteorder.specs.Endian.{big_number}
use Rattle.vtl_base.specs.declared.layout.TheConstants.{REGISTRATION_BYTES, STATE_HEAD}
use Rattle.vtl_base.specs.declared.limits.TheConstants.{NEXUSES}
use Rattle.scsi_lists.specs.declared.actions.PrType.{PrType}
use Rattle.scsi_lists.specs.Actions.{type_of}
use Rattle.pr_core.specs.declared.states.Reservation.{Reservation}
use Rattle.pr_core.specs.declared.states.PrState.{PrState}
use Rattle.pr_core.specs.States.{key_of}
use Rattle.aptpl_store.specs.Spelling.{registration}

-- the nexuses from this one on, by rising number (own)
unfoldable pub nexuses_from : ℕ → List ℕ
nexuses_from nexus = range_with_len nexus (65 - nexus)

-- the registrations of these nexuses (own)
unfoldable pub registrations_of : PrState → List ℕ → List ℕ
registrations_of state some = flat_map (λ nexus. registration (key_of state nexus) nexus) some

-- the bytes begin with the registration of a nexus (own)
abbrev pub begins_with : ℕ → List ℕ → Bool
begins_with nexus bytes = nat_le REGISTRATION_BYTES (length bytes) && (slice_index bytes 0 == nexus)

-- the key of a nexus, where the bytes begin with its registration (own)
abbrev pub key_decoded : ℕ → List ℕ → Option ℕ
key_decoded nexus bytes = if begins_with nexus bytes then Some (big_number 8 (drop 1 bytes)) else None

-- the bytes after the registration of a nexus, where they begin with it (own)
abbrev pub behind : ℕ → List ℕ → List ℕ
behind nexus bytes = if begins_with nexus bytes then drop REGISTRATION_BYTES bytes else bytes

-- the keys of these nexuses, each of which may have its registration next (own)
unfoldable pub keys_decoded : List ℕ → List ℕ → List (Option ℕ)
keys_decoded [] bytes = []
keys_decoded (nexus ∷ later) bytes = key_decoded nexus bytes ∷ keys_decoded later (behind nexus bytes)

-- the nexus with this number, if there is one (own)
abbrev pub nexus_decoded : ℕ → Option ℕ
nexus_decoded number = if nat_le 1 number && nat_le number NEXUSES then Some number else None

-- a reservation of this type, if there is one, with this holder, if there is one (own)
abbrev pub held_decoded : Option PrType → Option ℕ → Option Reservation
held_decoded None holder = None
held_decoded (Some kind) holder = Some (record { kind = kind; holder = holder })

-- the state that is read from four bytes and registrations (own)
abbrev pub state_decoded : List ℕ → PrState
state_decoded body =
    record {
      keys = keys_decoded (nexuses_from 1) (drop STATE_HEAD body);
      reservation = held_decoded (type_of (slice_index body 1)) (nexus_decoded (slice_index body 2));
      aptpl = slice_index body 0 == 1;
      generation = 0;
    }
