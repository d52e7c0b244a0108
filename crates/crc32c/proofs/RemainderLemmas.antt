-- The register machine divides.
use Rattle.std.proofs.Common.{◌≡◌, ℕ, zero, suc, ◌+◌, ◌*◌, ◌/◌, ◌%◌, ◌^◌, ◌<◌, List, length, bit_xor, ap, sym, ◌∙◌, arith, lit<}
use Rattle.std.specs.List.{All}
use Rattle.std.proofs.lemmas.Nat.{xor_comm}
use Rattle.std.specs.Int.Bits.{xor_assoc, xor_block, xor_self, xor_zero_r}
use Rattle.std.proofs.Math.Nat.{mod-lt, mul_assoc, pow-suc}
use Rattle.crc32c.specs.Crc.{ONES, POLYNOMIAL, fed, step, steps}
use Rattle.crc32c.specs.Facts.{fed_lt}
use Rattle.crc32c.specs.Remainder.{DIVISOR, IsRemainder, low_first, times}
use Rattle.crc32c.proofs.FedLemmas.{fed_word}

-- a bit more at the lower end of two words
doubled : (a b x : ℕ) → x < 2 → bit_xor (a * 2 + x) (b * 2) ≡ bit_xor a b * 2 + x
doubled a b x lt =
    let none : b * 2 ≡ b * 2 + 0 = omega arith in
    ap (bit_xor (a * 2 + x)) none ∙ xor_block 1 a b x 0 lt (omega arith)
    ∙ ap (λ (y : ℕ). bit_xor a b * 2 + y) (xor_zero_r x)

twice : (a b : ℕ) → bit_xor (a * 2) (b * 2) ≡ bit_xor a b * 2
twice a b =
    let none : a * 2 ≡ a * 2 + 0 = omega arith in
    ap (λ (y : ℕ). bit_xor y (b * 2)) none ∙ doubled a b 0 (omega arith) ∙ omega arith

-- a step takes the divisor away where the lowest bit stands, and halves
one_step : (w : ℕ) → w ≡ bit_xor (w % 2 * DIVISOR) (step w * 2)
unfolding step
one_step w =
    let bit = w % 2 in
    let poly = bit * POLYNOMIAL in
    let lt : bit < 2 = mod-lt w (omega arith) in
    let parts : bit * DIVISOR ≡ poly * 2 + bit = omega arith in
    let back : bit_xor poly (bit_xor (w / 2) poly) ≡ w / 2 =
    ap (bit_xor poly) (xor_comm (w / 2) poly) ∙ sym (xor_assoc poly poly (w / 2))
    ∙ ap (λ (x : ℕ). bit_xor x (w / 2)) (xor_self poly) in
    let whole : w / 2 * 2 + bit ≡ w = omega arith in
    sym (ap (λ (x : ℕ). bit_xor x (bit_xor (w / 2) poly * 2)) parts
    ∙ doubled poly (bit_xor (w / 2) poly) bit lt
    ∙ ap (λ (x : ℕ). x * 2 + bit) back ∙ whole)

-- a quotient of so many bits, and what is left
pub divided : (count w : ℕ)
    → (quotient : ℕ) × (quotient < 2 ^ count)
    × (w ≡ bit_xor (times count quotient DIVISOR) (steps count w * 2 ^ count))
unfolding times steps
divided zero w =
    let one : w ≡ w * 1 = omega arith in
    (0, lit< tt, one)
divided (suc count) w = with_bit (divided count (step w))
  where
    with_bit : ((quotient : ℕ) × (quotient < 2 ^ count)
        × (step w ≡ bit_xor (times count quotient DIVISOR) (steps count (step w) * 2 ^ count)))
        → (quotient : ℕ) × (quotient < 2 ^ suc count)
        × (w ≡ bit_xor (times (suc count) quotient DIVISOR) (steps (suc count) w * 2 ^ suc count))
    with_bit (q, lt, is) =
        let bit = w % 2 in
        let two : bit < 2 = mod-lt w (omega arith) in
        let low : (q * 2 + bit) % 2 ≡ bit = omega arith in
        let high : (q * 2 + bit) / 2 ≡ q = omega arith in
        let left = steps count (step w) in
        let power : 2 ^ suc count ≡ 2 ^ count * 2 = pow-suc 2 count in
        let product = times count q DIVISOR in (
          q * 2 + bit,
          omega (arith, lt, two, power),
          one_step w
              ∙ ap (λ (x : ℕ). bit_xor (bit * DIVISOR) (x * 2)) is
              ∙ ap (bit_xor (bit * DIVISOR)) (sym (twice product (left * 2 ^ count))
              ∙ ap (bit_xor (product * 2)) (mul_assoc left (2 ^ count) 2 ∙ ap (λ (p : ℕ). left * p) (sym power)))
              ∙ sym (xor_assoc (bit * DIVISOR) (product * 2) (left * 2 ^ suc count))
              ∙ (λ i. bit_xor (bit_xor (sym low i * DIVISOR) (times count (sym high i) DIVISOR * 2))
              (left * 2 ^ suc count)),
        )

-- the register after bytes is the remainder of the word of these bytes, in which the first 32 bits are turned over
pub register_is : (bytes : List ℕ) → All (λ b. b < 2 ^ 8) bytes
    → IsRemainder (8 * length bytes) (bit_xor ONES (low_first bytes)) (fed ONES bytes)
register_is bytes all =
    let word = bit_xor ONES (low_first bytes) in
    let count = 8 * length bytes in
    let found = divided count word in
    record {
      quotient = found.0;
      fits = found.1;
      short = fed_lt ONES bytes (lit< tt) all;
      sum = found.2 ∙ ap (λ (r : ℕ). bit_xor (times count found.0 DIVISOR) (r * 2 ^ count))
          (sym (fed_word ONES bytes all));
    }
