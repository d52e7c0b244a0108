-- Halving, and powers of two after one more step.
use Rattle.std.proofs.Common.{◌≡◌, ◌≤◌, ◌<◌, ◌+◌, ◌-◌, ◌*◌, ◌^◌, ℕ, arith, ⊎_elim}
use Rattle.std.specs.Prelude.{suc}
use Rattle.std.proofs.Math.Nat.{mul-le-mul_left, mul-le-mul_right, mul_assoc, mul_left_comm, pow-suc, pow-le-pow_right}
use Rattle.std.proofs.lemmas.Bool.{cases_lt}
use Rattle.vtl_base.specs.Steps.{AddsDigits, ticked}

-- one more step at most doubles
pub doubled : (old mid new : ℕ) → old ≤ mid → mid ≤ new → new ≡ ticked mid → 2 ^ (new - old) ≤ 2 * 2 ^ (mid - old)
doubled old mid new before grows is =
    let le : new - old ≤ suc (mid - old) = omega (arith, before, grows, is) in
    let up : 2 ^ (new - old) ≤ 2 ^ suc (mid - old) = pow-le-pow_right (omega arith) le in
    omega (arith, up, pow-suc 2 (mid - old))

-- the product is no more than before, where one is doubled and the other halved
pub halved : (p q h k most : ℕ) → p * h ≤ most → q ≤ 2 * p → k + k ≤ h → q * k ≤ most
halved p q h k most le double half =
    let one : q * k ≤ 2 * p * k = mul-le-mul_right k double in
    let two : p * (2 * k) ≤ p * h = mul-le-mul_left p (omega (arith, half)) in
    omega (arith, one, two, le, mul_assoc 2 p k, mul_left_comm p 2 k)

-- so it is no more than twice the most, where something was left
pub twice : (p q h most : ℕ) → p * h ≤ most → q ≤ 2 * p → 1 ≤ h → q ≤ 2 * most + 1
twice p q h most le double some =
    let one : p * 1 ≤ p * h = mul-le-mul_left p some in
    omega (arith, one, le, double)

-- for at most as many runs as a partition has objects, at most 24 steps are added
pub at_most_24 : (old new number : ℕ) → AddsDigits old new number → number ≤ 16000000 → new ≤ old + 24
at_most_24 old new number adds few =
    ⊎_elim
    (λ (more : 24 < new - old).
    let high : 2 ^ 25 ≤ 2 ^ (new - old) =
    pow-le-pow_right {n = 2} (omega arith) {i = 25} {j = new - old} (omega (arith, more)) in
    absurd (let no : ⊥ = omega (arith, high, adds.digits, few) in no))
    (λ (le : new - old ≤ 24). omega (arith, le, adds.grows))
    (cases_lt 24 (new - old))
