-- The parameter list of MODE SELECT and the data of MODE SENSE: a header, followed by at most one block descriptor.
use Rattle.std.specs.Prelude.{ℕ, ◌+◌, ◌/◌, ◌%◌, ◌==◌, ◌||◌, ◌&&◌, nat_lt, not, List, [], ◌∷◌, ◌++◌, length, slice_index, drop, replicate, Option, None, Some, Result, Ok, Err, Bool, if◌then◌else◌}
use Rattle.byteorder.specs.Endian.{big_number}
use Rattle.scsi_sense.specs.declared.sense_data.Sense.{Sense}
use Rattle.scsi_sense.specs.Senses.{parameter_list_length_error, invalid_parameter}
use Rattle.scsi_lists.specs.declared.mode_lists.ModeList.{ModeList}

-- BUFFERED MODE: byte 2 bits 6 to 4; 0 stores before the status, 1 answers once it is in the buffer
-- (SSC-4, mode parameter header)
abbrev pub buffered_mode : List ℕ → ℕ
buffered_mode list = slice_index list 2 / 16 % 8

-- BLOCK DESCRIPTOR LENGTH: byte 3 (SPC-4, mode parameter header)
abbrev pub descriptor_length : List ℕ → ℕ
descriptor_length list = slice_index list 3

-- BLOCK LENGTH: the last three bytes of a block descriptor of 8 bytes after the header, the highest first (SSC-4, mode
-- parameter block descriptor)
abbrev pub descriptor_block_length : List ℕ → ℕ
descriptor_block_length list = big_number 3 (drop 9 list)

-- a list of a header of 4 bytes, or of a header and one block descriptor of 8 (own)
abbrev pub has_mode_length : List ℕ → Bool
has_mode_length list = length list == 4 || length list == 12

-- a list with a block descriptor that asks for blocks of one length (own: the length of a block is free)
abbrev pub fixes_block_length : List ℕ → Bool
fixes_block_length list = length list == 12 && not (descriptor_block_length list == 0)

-- a field is refused: the length of the block descriptors is not that of the rest after the header, a block length is
-- not 0, or the buffered mode is above 1 (own)
abbrev pub has_refused_mode : List ℕ → Bool
has_refused_mode list =
    not (descriptor_length list + 4 == length list) || (fixes_block_length list || nat_lt 1 (buffered_mode list))

-- a list asks for this mode, or for none (own)
abbrev pub mode_list : Option Bool → ModeList
mode_list buffered = record { buffered = buffered }

-- the mode that a list asks for, or why it is refused: an empty list changes nothing; first the length, then the
-- fields; no other field counts (SPC-4, MODE SELECT(6); own, the order of checks)
abbrev pub mode_decoded : List ℕ → Result ModeList Sense
mode_decoded list =
    if length list == 0 then Ok (mode_list None)
    else (if not (has_mode_length list) then Err parameter_list_length_error
    else (if has_refused_mode list then Err invalid_parameter
    else Ok (mode_list (Some (buffered_mode list == 1)))))

-- the device-specific parameter: the buffered mode in bits 6 to 4, no write protection, speed 0 (SSC-4, mode parameter
-- header; own that nothing is protected)
abbrev pub device_specific : Bool → ℕ
device_specific buffered = if buffered then 0x10 else 0x00

-- the header of mode data: how many bytes follow its first one, medium type 0, the device-specific parameter, and the
-- length of the block descriptors (SPC-4, mode parameter header)
abbrev pub mode_header : Bool → ℕ → List ℕ
mode_header buffered descriptors = (3 + descriptors) ∷ 0 ∷ device_specific buffered ∷ descriptors ∷ []

-- the data of MODE SENSE: a header and a block descriptor of 8 bytes, which are 0 since the length of a block is free,
-- or the header alone where descriptors are disabled (SPC-4, MODE SENSE(6); no pages, own)
abbrev pub mode_data : Bool → Bool → List ℕ
mode_data buffered disables = if disables then mode_header buffered 0 else mode_header buffered 8 ++ replicate 8 0
