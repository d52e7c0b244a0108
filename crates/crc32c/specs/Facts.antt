-- Registers and sums have 32 bits.
use Rattle.std.proofs.Common.{◌≡◌, refl, ℕ, zero, suc, ◌*◌, ◌/◌, ◌%◌, ◌^◌, ◌<◌, List, [], ◌∷◌, bit_xor, arith, lit<}
use Rattle.std.proofs.lemmas.Nat.{xor_lt}
use Rattle.std.proofs.Math.Nat.{mod-lt}
use Rattle.crc32c.specs.Crc.{AreBytes, ONES, POLYNOMIAL, crc32c, fed, step, steps}

step_lt : (r : ℕ) → r < 2 ^ 32 → step r < 2 ^ 32
unfolding step
step_lt r lt = xor_lt 32 (r / 2) (r % 2 * POLYNOMIAL) (omega arith) (half (r % 2) (mod-lt r (omega arith)))
  where
    half : (bit : ℕ) → bit < 2 → bit * POLYNOMIAL < 2 ^ 32
    half bit two = omega arith

-- a register has 32 bits behind any steps (own)
pub steps_lt : (n r : ℕ) → r < 2 ^ 32 → steps n r < 2 ^ 32
unfolding steps
steps_lt zero r lt = lt
steps_lt (suc n) r lt = steps_lt n (step r) (step_lt r lt)

-- a register has 32 bits behind any bytes (own)
pub fed_lt : (r : ℕ) (bytes : List ℕ) → r < 2 ^ 32 → AreBytes bytes → fed r bytes < 2 ^ 32
unfolding fed
fed_lt r [] lt all = lt
fed_lt r (b ∷ bytes) lt all =
    let first : b < 2 ^ 8 = all 0 0 (omega arith) in
    fed_lt (steps 8 (bit_xor r b)) bytes (steps_lt 8 (bit_xor r b) (xor_lt 32 r b lt (omega (arith, first))))
    (λ k d is_in. all (suc k) d (omega arith))

-- a sum has 32 bits (own)
pub crc32c_lt : (bytes : List ℕ) → AreBytes bytes → crc32c bytes < 2 ^ 32
crc32c_lt bytes all = xor_lt 32 (fed ONES bytes) ONES (fed_lt ONES bytes (lit< tt) all) (lit< tt)

-- the sum of no bytes is 0 (RFC 3720, CRC32C)
pub sum_of_none : crc32c [] ≡ 0
unfolding fed
sum_of_none = refl
