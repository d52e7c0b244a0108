-- Steps are linear, and many of them are few at a time.
use Rattle.std.proofs.Common.{◌≡◌, ℕ, zero, suc, ◌+◌, ◌*◌, ◌/◌, ◌%◌, ◌^◌, ◌<◌, bit_xor, refl, ap, ap₂, sym, ◌∙◌, arith}
use Rattle.std.proofs.lemmas.Nat.{xor_comm, xor_mod, xor_shr, shr_split, pow_pos}
use Rattle.std.specs.Int.Bits.{xor_zero_r, xor_assoc, xor_shifted, shifted_even, shifted_half}
use Rattle.std.proofs.Math.Nat.{mod-lt}
use Rattle.crc32c.specs.Crc.{step, steps, POLYNOMIAL}

-- four terms in another order
pub shuffle : (p q r s : ℕ) → bit_xor (bit_xor p q) (bit_xor r s) ≡ bit_xor (bit_xor p r) (bit_xor q s)
shuffle p q r s =
    xor_assoc p q (bit_xor r s)
    ∙ ap (λ (x : ℕ). bit_xor p x) (sym (xor_assoc q r s) ∙ ap (λ (x : ℕ). bit_xor x s) (xor_comm q r) ∙ xor_assoc r q s)
    ∙ sym (xor_assoc p r (bit_xor q s))

-- a bit times the polynomial
digit_times : (x y : ℕ) → x < 2 → y < 2
    → bit_xor x y * POLYNOMIAL ≡ bit_xor (x * POLYNOMIAL) (y * POLYNOMIAL)
digit_times zero y hx hy = refl
digit_times (suc zero) zero hx hy = refl
digit_times (suc zero) (suc zero) hx hy = refl
digit_times (suc zero) (suc (suc y)) hx hy = absurd (omega arith)
digit_times (suc (suc x)) y hx hy = absurd (omega arith)

pub step_xor : (a b : ℕ) → step (bit_xor a b) ≡ bit_xor (step a) (step b)
unfolding step
step_xor a b =
    ap₂ bit_xor (xor_shr a b 1)
    (ap (λ (x : ℕ). x * POLYNOMIAL) (xor_mod a b 1)
    ∙ digit_times (a % 2) (b % 2) (mod-lt a (omega arith)) (mod-lt b (omega arith)))
    ∙ shuffle (a / 2) (b / 2) (a % 2 * POLYNOMIAL) (b % 2 * POLYNOMIAL)

pub steps_xor : (n a b : ℕ) → steps n (bit_xor a b) ≡ bit_xor (steps n a) (steps n b)
unfolding steps
steps_xor zero a b = refl
steps_xor (suc n) a b = ap (steps n) (step_xor a b) ∙ steps_xor n (step a) (step b)

-- steps after steps
pub steps_more : (m n r : ℕ) → steps (m + n) r ≡ steps n (steps m r)
unfolding steps
steps_more zero n r =
    let e : 0 + n ≡ n = omega arith in
    ap (λ (k : ℕ). steps k r) e
steps_more (suc m) n r =
    let e : suc m + n ≡ suc (m + n) = omega arith in
    ap (λ (k : ℕ). steps k r) e ∙ steps_more m n (step r)

step_even : (x n : ℕ) → step (x * 2 ^ suc n) ≡ x * 2 ^ n
unfolding step
step_even x n =
    ap₂ (λ (a b : ℕ). bit_xor a (b * POLYNOMIAL)) (shifted_half x n) (shifted_even x n) ∙ xor_zero_r (x * 2 ^ n)

-- bits that have only to leave the register's lower end
pub steps_shifted : (n x : ℕ) → steps n (x * 2 ^ n) ≡ x
unfolding steps
steps_shifted zero x = omega arith
steps_shifted (suc n) x = ap (steps n) (step_even x n) ∙ steps_shifted n x

-- what stands above the bits that leave is only shifted
pub steps_split : (n w : ℕ) → steps n w ≡ bit_xor (w / 2 ^ n) (steps n (w % 2 ^ n))
steps_split n w =
    let low : w % 2 ^ n < 2 ^ n = mod-lt w (pow_pos n) in
    let parts : w ≡ bit_xor (w / 2 ^ n * 2 ^ n) (w % 2 ^ n) =
    sym (xor_shifted (w / 2 ^ n) n (w % 2 ^ n) low ∙ shr_split w n) in
    ap (steps n) parts ∙ steps_xor n (w / 2 ^ n * 2 ^ n) (w % 2 ^ n)
    ∙ ap (λ (x : ℕ). bit_xor x (steps n (w % 2 ^ n))) (steps_shifted n (w / 2 ^ n))

-- the first byte of a word, with the other bytes after it
pub steps_byte : (m w : ℕ) → steps (8 + m) w ≡ bit_xor (steps m (w / 2 ^ 8)) (steps (8 + m) (w % 2 ^ 8))
steps_byte m w =
    steps_more 8 m w ∙ ap (steps m) (steps_split 8 w)
    ∙ steps_xor m (w / 2 ^ 8) (steps 8 (w % 2 ^ 8))
    ∙ ap (bit_xor (steps m (w / 2 ^ 8))) (sym (steps_more 8 m (w % 2 ^ 8)))
