-- CRC-32C: the register machine, bit by bit.
use Rattle.std.specs.Prelude.{◌≡◌, ℕ, zero, suc, ◌*◌, ◌/◌, ◌%◌, ◌^◌, ◌<◌, List, [], ◌∷◌, bit_xor}
use Rattle.std.specs.List.{All}

-- Castagnoli's polynomial 1EDC6F41h, without its term x^32, reflected: the coefficient of x^31 is the lowest bit
-- (RFC 3720, CRC32C)
abbrev pub POLYNOMIAL : ℕ
POLYNOMIAL = 0x82f63b78

-- 32 bits 1: what the register is at the start, and what is added to it at the end (RFC 3720, CRC32C)
abbrev pub ONES : ℕ
ONES = 0xffffffff

-- One step of the register: it is shifted by one bit, and where a bit 1 left it the polynomial is added (RFC 3720,
-- CRC32C)
unfoldable pub step : ℕ → ℕ
step register = bit_xor (register / 2) (register % 2 * POLYNOMIAL)

-- that many steps (own)
unfoldable pub steps : ℕ → ℕ → ℕ
steps zero register = register
steps (suc count) register = steps count (step register)

-- the register after these bytes: each is added to its lowest eight bits, and eight steps follow (RFC 3720, CRC32C)
unfoldable pub fed : ℕ → List ℕ → ℕ
fed register [] = register
fed register (byte ∷ bytes) = fed (steps 8 (bit_xor register byte)) bytes

-- the sum of these bytes (RFC 3720, CRC32C)
abbrev pub crc32c : List ℕ → ℕ
crc32c bytes = bit_xor (fed ONES bytes) ONES

-- the register stands behind these bytes (own)
abbrev pub StandsBehind : ℕ → List ℕ → Type 0
StandsBehind register bytes = register ≡ fed ONES bytes

-- each of the numbers is a byte (own)
abbrev pub AreBytes : List ℕ → Type 0
AreBytes bytes = All (λ byte. byte < 2 ^ 8) bytes
