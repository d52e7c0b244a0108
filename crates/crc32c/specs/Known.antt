-- Sums that others list.
use Rattle.std.specs.Prelude.{◌≡◌, codes, replicate, reverse}
use Rattle.std.specs.List.{range_with_len}
use Rattle.crc32c.specs.Crc.{crc32c}

-- The sums of `123456789`, in catalogues of sums; of 32 bytes 00h, of 32 bytes FFh, of 00h to 1Fh and of 1Fh to 00h
-- (RFC 3720, CRC examples)
pub record KnownSums : Type 0 where
  pub digits : crc32c (codes "123456789") ≡ 0xe3069283
  pub zeros : crc32c (replicate 32 0) ≡ 0x8a9136aa
  pub ones : crc32c (replicate 32 255) ≡ 0x62a8ab43
  pub rising : crc32c (range_with_len 0 32) ≡ 0x46dd794e
  pub falling : crc32c (reverse (range_with_len 0 32)) ≡ 0x113fdb5c
