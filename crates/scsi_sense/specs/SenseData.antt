-- Sense data in fixed format.
use Rattle.std.specs.Prelude.{ℕ, ◌+◌, List, [], ◌∷◌, ◌++◌, None, Bool, false, is_some, unwrap_or, replicate, if◌then◌else◌}
use Rattle.byteorder.specs.Endian.{big_bytes}
use Rattle.scsi_sense.specs.declared.sense_data.SenseKey.{SenseKey}
use Rattle.scsi_sense.specs.declared.sense_data.SenseKey.TheVariants.{NoSense, NotReady, MediumError, HardwareError, IllegalRequest, UnitAttention, BlankCheck, AbortedCommand, VolumeOverflow}
use Rattle.scsi_sense.specs.declared.sense_data.Sense.{Sense}

-- sense data of a key, an additional code and its qualifier alone (own)
abbrev pub plain_sense : SenseKey → ℕ → ℕ → Sense
plain_sense key code qualifier = record {
  key = key;
  code = code;
  qualifier = qualifier;
  filemark = false;
  end_of_medium = false;
  incorrect_length = false;
  information = None;
  deferred = false;
}

-- the number of a sense key (SPC-4, sense keys)
abbrev pub key_number : SenseKey → ℕ
key_number NoSense = 0x0
key_number NotReady = 0x2
key_number MediumError = 0x3
key_number HardwareError = 0x4
key_number IllegalRequest = 0x5
key_number UnitAttention = 0x6
key_number BlankCheck = 0x8
key_number AbortedCommand = 0xb
key_number VolumeOverflow = 0xd

-- a bit that is set or not (own)
abbrev pub bit_if : Bool → ℕ → ℕ
bit_if set value = if set then value else 0

-- byte 0: current or deferred, and VALID in bit 7 (SPC-4, fixed format)
abbrev pub response_byte : Sense → ℕ
response_byte sense = (if sense.deferred then 0x71 else 0x70) + bit_if (is_some sense.information) 0x80

-- byte 2: FILEMARK, EOM, ILI in bits 7 to 5, and the key (SPC-4, fixed format)
abbrev pub key_byte : Sense → ℕ
key_byte sense =
    bit_if sense.filemark 0x80 + bit_if sense.end_of_medium 0x40 + bit_if sense.incorrect_length 0x20
    + key_number sense.key

-- the bytes: INFORMATION in 3 to 6, the length of the rest in 7, code and qualifier in 12 and 13
-- (SPC-4, fixed format; always 18, own)
abbrev pub sense_bytes : Sense → List ℕ
sense_bytes sense =
    response_byte sense ∷ 0 ∷ key_byte sense ∷ []
    ++ big_bytes 4 (unwrap_or sense.information 0)
    ++ (0x0a ∷ 0 ∷ 0 ∷ 0 ∷ 0 ∷ sense.code ∷ sense.qualifier ∷ replicate 4 0)
