-- The parameter list of PERSISTENT RESERVE OUT: its fields, read from named bytes.
use Rattle.std.specs.Prelude.{ℕ, ◌==◌, ◌||◌, ◌&&◌, List, length, slice_index, drop, Result, Ok, Err, Bool, true, false, if◌then◌else◌}
use Rattle.std.specs.Int.{bit_at}
use Rattle.byteorder.specs.Endian.{big_number}
use Rattle.scsi_sense.specs.declared.sense_data.Sense.{Sense}
use Rattle.scsi_sense.specs.Senses.{parameter_list_length_error, invalid_parameter}
use Rattle.scsi_lists.specs.declared.actions.PrAction.{PrAction}
use Rattle.scsi_lists.specs.declared.actions.PrAction.TheVariants as action
use Rattle.scsi_lists.specs.declared.pr_lists.PrOut.{PrOut}
use Rattle.scsi_lists.specs.declared.pr_lists.PrOut.TheVariants.{Register, Reserve, Release, Clear, Preempt, RegisterAndIgnoreExistingKey}

-- the first eight bytes as a key, the highest first (SPC-4, PERSISTENT RESERVE OUT)
abbrev pub key_in : List ℕ → ℕ
key_in bytes = big_number 8 bytes

-- RESERVATION KEY: bytes 0 to 7 (SPC-4, PERSISTENT RESERVE OUT)
abbrev pub reservation_key : List ℕ → ℕ
reservation_key list = key_in list

-- SERVICE ACTION RESERVATION KEY: bytes 8 to 15 (SPC-4, PERSISTENT RESERVE OUT)
abbrev pub service_action_key : List ℕ → ℕ
service_action_key list = key_in (drop 8 list)

-- a bit of byte 20, bit 0 the lowest (SPC-4, PERSISTENT RESERVE OUT)
abbrev pub has_bit : List ℕ → ℕ → Bool
has_bit list bit = bit_at (slice_index list 20) bit == 1

-- SPEC_I_PT: bit 3 (SPC-4, PERSISTENT RESERVE OUT)
abbrev pub specifies_initiators : List ℕ → Bool
specifies_initiators list = has_bit list 3

-- ALL_TG_PT: bit 2 (SPC-4, PERSISTENT RESERVE OUT)
abbrev pub is_for_all_targets : List ℕ → Bool
is_for_all_targets list = has_bit list 2

-- APTPL: bit 0 (SPC-4, PERSISTENT RESERVE OUT)
abbrev pub activates_persistence : List ℕ → Bool
activates_persistence list = has_bit list 0

-- the actions that register a host (SPC-4, PERSISTENT RESERVE OUT)
abbrev pub is_registering : PrAction → Bool
is_registering action.Register = true
is_registering action.RegisterAndIgnoreExistingKey = true
is_registering _ = false

-- a bit is 1 that must be 0: SPEC_I_PT, or ALL_TG_PT where a host is registered (own)
abbrev pub has_refused_bit : PrAction → List ℕ → Bool
has_refused_bit action list = specifies_initiators list || (is_registering action && is_for_all_targets list)

-- the order of a list of 24 bytes; APTPL counts only where a host is registered (SPC-4, PERSISTENT RESERVE OUT)
abbrev pub order_of : PrAction → List ℕ → PrOut
order_of action.Register list =
    Register (reservation_key list) (service_action_key list) (activates_persistence list)
order_of (action.Reserve kind) list = Reserve (reservation_key list) kind
order_of (action.Release kind) list = Release (reservation_key list) kind
order_of action.Clear list = Clear (reservation_key list)
order_of (action.Preempt kind) list = Preempt (reservation_key list) (service_action_key list) kind
order_of action.RegisterAndIgnoreExistingKey list =
    RegisterAndIgnoreExistingKey (service_action_key list) (activates_persistence list)

-- the order of a list, or why it is refused: first its length, then its bits (own, the order of checks)
abbrev pub list_decoded : PrAction → List ℕ → Result PrOut Sense
list_decoded action list =
    if length list == 24 then (if has_refused_bit action list then Err invalid_parameter else Ok (order_of action list))
    else Err parameter_list_length_error
