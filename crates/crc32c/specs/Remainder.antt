-- CRC-32C as a remainder of polynomials over two elements. A word of n bits is a polynomial: its lowest bit is the
-- coefficient of x^(n - 1), its highest that of x^0. Words are added bit by bit.
use Rattle.std.specs.Prelude.{◌≡◌, ◌<◌, ◌+◌, ◌*◌, ◌/◌, ◌%◌, ◌^◌, ℕ, zero, suc, List, [], ◌∷◌, bit_xor}
use Rattle.crc32c.specs.Crc.{POLYNOMIAL}

-- the polynomial by which is divided, Castagnoli's with its term x^32: 33 bits, the lowest for x^32 (RFC 3720, CRC32C)
abbrev pub DIVISOR : ℕ
DIVISOR = 2 * POLYNOMIAL + 1

-- the product of a polynomial of `count` bits and another one (own)
unfoldable pub times : ℕ → ℕ → ℕ → ℕ
times zero quotient divisor = 0
times (suc count) quotient divisor =
    bit_xor (quotient % 2 * divisor) (times count (quotient / 2) divisor * 2)

-- the bytes as one word, the first byte lowest (own)
abbrev pub low_first : List ℕ → ℕ
low_first [] = 0
low_first (byte ∷ bytes) = low_first bytes * 2 ^ 8 + byte

-- A word of `count` + 32 bits is a multiple of the divisor and a remainder of 32 bits, of degree below 32: the last 32
-- bits of the word are those of degree below 32 (own).
pub record IsRemainder (count word remainder : ℕ) : Type 0 where
  pub quotient : ℕ
  pub fits : quotient < 2 ^ count
  pub short : remainder < 2 ^ 32
  pub sum : word ≡ bit_xor (times count quotient DIVISOR) (remainder * 2 ^ count)
