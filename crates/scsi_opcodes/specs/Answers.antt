-- The data of the commands that ask about the drive itself.
use Rattle.std.specs.Prelude.{ℕ, List, [], ◌∷◌, ◌++◌, take, codes}
use Rattle.byteorder.specs.Endian.{big_bytes}
use Rattle.vtl_base.specs.declared.limits.TheConstants.{MAX_BLOCK}

-- peripheral device type 1, a sequential-access device; a removable medium; version 6, SPC-4; response data format 2;
-- 31 further bytes; no other bit (SPC-4, standard INQUIRY data)
abbrev pub inquiry_head : List ℕ
inquiry_head = 0x01 ∷ 0x80 ∷ 0x06 ∷ 0x02 ∷ 0x1f ∷ 0x00 ∷ 0x00 ∷ 0x00 ∷ []

-- the 36 bytes: head, vendor in 8, product in 16, revision in 4, padded with spaces
-- (SPC-4, standard INQUIRY data; the names own)
abbrev pub inquiry_data : List ℕ
inquiry_data = inquiry_head ++ codes "VTLIB   " ++ codes "TAPE DRIVE      " ++ codes "0001"

-- granularity 0; the longest block in 3 bytes, the shortest, of one byte, in 2
-- (SSC-4, READ BLOCK LIMITS; the lengths own)
abbrev pub block_limits : List ℕ
block_limits = 0 ∷ big_bytes 3 MAX_BLOCK ++ big_bytes 2 1

-- the part of data that fits a host's room for `allocation` bytes (SPC-4, ALLOCATION LENGTH)
abbrev pub cut_to : ℕ → List ℕ → List ℕ
cut_to allocation bytes = take allocation bytes
