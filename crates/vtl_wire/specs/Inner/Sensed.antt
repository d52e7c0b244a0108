-- Sense data as a function of their bytes (own).
use Rattle.std.specs.Prelude.{ℕ, ◌%◌, ◌==◌, nat_le, if◌then◌else◌, List, drop, slice_index, Option, None, Some}
use Rattle.byteorder.specs.Endian.{big_number}
use Rattle.scsi_sense.specs.declared.sense_data.Sense.{Sense}
use Rattle.scsi_sense.specs.declared.sense_data.SenseKey.{SenseKey}
use Rattle.scsi_sense.specs.declared.sense_data.SenseKey.TheVariants.{NoSense, NotReady, MediumError, HardwareError, IllegalRequest, UnitAttention, BlankCheck, AbortedCommand, VolumeOverflow}

-- the sense key with this number, if there is one (SPC-4, sense keys)
abbrev pub key_with : ℕ → Option SenseKey
key_with number =
    if number == 0x0 then Some NoSense else (if number == 0x2 then Some NotReady else (if number == 0x3
    then Some MediumError else (if number == 0x4 then Some HardwareError else (if number == 0x5
    then Some IllegalRequest else (if number == 0x6 then Some UnitAttention else (if number == 0x8
    then Some BlankCheck else (if number == 0xb then Some AbortedCommand else (if number == 0xd
    then Some VolumeOverflow else None))))))))

-- the sense data with this key whose other fields have these bytes (own)
abbrev pub sense_with : List ℕ → SenseKey → Sense
sense_with bytes key = record {
  key = key;
  code = slice_index bytes 12;
  qualifier = slice_index bytes 13;
  filemark = nat_le 0x80 (slice_index bytes 2);
  end_of_medium = nat_le 0x40 (slice_index bytes 2 % 0x80);
  incorrect_length = nat_le 0x20 (slice_index bytes 2 % 0x40);
  information = if nat_le 0x80 (slice_index bytes 0) then Some (big_number 4 (drop 3 bytes)) else None;
  deferred = slice_index bytes 0 % 0x80 == 0x71;
}

-- the sense data with this key, if there is one (own)
abbrev pub sense_by : List ℕ → Option SenseKey → Option Sense
sense_by bytes None = None
sense_by bytes (Some key) = Some (sense_with bytes key)

-- the only sense data that may have these bytes, whatever stands where all sense data are alike (own)
abbrev pub sense_like : List ℕ → Option Sense
sense_like bytes = sense_by bytes (key_with (slice_index bytes 2 % 0x20))
