-- The sums that others list, computed by the definition.
use Rattle.std.proofs.Common.{◌≡◌, codes, replicate, reverse, refl}
use Rattle.std.specs.List.{range_with_len}
use Rattle.crc32c.specs.Crc.{crc32c, fed, step, steps}
use Rattle.crc32c.specs.Known.{KnownSums}

sum_of_digits : crc32c (codes "123456789") ≡ 0xe3069283
unfolding fed step steps
sum_of_digits = refl

sum_of_zeros : crc32c (replicate 32 0) ≡ 0x8a9136aa
unfolding fed step steps
sum_of_zeros = refl

sum_of_ones : crc32c (replicate 32 255) ≡ 0x62a8ab43
unfolding fed step steps
sum_of_ones = refl

sum_of_rising : crc32c (range_with_len 0 32) ≡ 0x46dd794e
unfolding fed step steps
sum_of_rising = refl

sum_of_falling : crc32c (reverse (range_with_len 0 32)) ≡ 0x113fdb5c
unfolding fed step steps
sum_of_falling = refl

pub known : KnownSums
known = record {
  digits = sum_of_digits;
  zeros = sum_of_zeros;
  ones = sum_of_ones;
  rising = sum_of_rising;
  falling = sum_of_falling;
}
