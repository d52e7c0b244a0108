-- What operations on bits do to the set that the bits stand for: each of the 64 bytes is tried.
use Rattle.std.proofs.Common.{◌≡◌, ℕ, zero, suc, ◌<◌, ◌-◌, ◌^◌, Bool, true, ◌==◌, ◌||◌, ◌∙◌, refl, ap, bit_and, bit_or, max, lit<, arith}
use Rattle.std.specs.Int.{bit_at}
use Rattle.std.proofs.lemmas.Nat.{or_lt}
use Rattle.std.proofs.lemmas.Nat.Bits.{bit_at_or, bit_at-lt}
use Rattle.std.specs.Prelude.{ltb}
use Rattle.std.specs.List.{list_all}
use Rattle.std.proofs.lemmas.List.Sums.{AllPass-from_list_all}
use Rattle.std.proofs.lemmas.Bool.{agree_below, agree_below_at, ltb-true}
use Rattle.scsi_attention.specs.declared.attention_sets.Attention.{Attention}
use Rattle.scsi_attention.specs.declared.attention_sets.Attention.TheVariants.{PowerOn, MediumChanged, ReservationsPreempted, RegistrationsPreempted, ReservationsReleased, ModeChanged}
use Rattle.scsi_attention.specs.AttentionSets.{AttentionSet, contains, union, with_attention, without, in_order}
use Rattle.scsi_attention.specs.Inner.AttentionBits.{bit_of, set_of_bits}

-- a test that all conditions in order pass
passes : (p : Attention → Bool) → list_all p in_order ≡ true → (a : Attention) → p a ≡ true
passes p each a =
    let all = AllPass-from_list_all p in_order each in
    elim a as (λ a. p a ≡ true) [
      | PowerOn ↦ all 0 PowerOn (lit< tt)
      | MediumChanged ↦ all 1 PowerOn (lit< tt)
      | ReservationsPreempted ↦ all 2 PowerOn (lit< tt)
      | RegistrationsPreempted ↦ all 3 PowerOn (lit< tt)
      | ReservationsReleased ↦ all 4 PowerOn (lit< tt)
      | ModeChanged ↦ all 5 PowerOn (lit< tt)
    ]

-- two tests of a condition and a byte that agree on each of the 64 bytes
agree : (f g : Attention → ℕ → Bool) → list_all (λ a. agree_below (f a) (g a) 64) in_order ≡ true
    → (a : Attention) (bits : ℕ) → bits < 64 → f a bits ≡ g a bits
agree f g each a bits fits =
    agree_below_at (f a) (g a) 64 bits (passes (λ b. agree_below (f b) (g b) 64) each a) fits

-- the same for two conditions
agree_at_both : (f g : Attention → Attention → ℕ → Bool)
    → list_all (λ b. list_all (λ a. agree_below (f b a) (g b a) 64) in_order) in_order ≡ true
    → (b a : Attention) (bits : ℕ) → bits < 64 → f b a bits ≡ g b a bits
agree_at_both f g each b a bits fits =
    agree (f b) (g b) (passes (λ q. list_all (λ p. agree_below (f q p) (g q p) 64) in_order) each b) a bits fits

-- a set by its fields
abbrev set_of : Bool → Bool → Bool → Bool → Bool → Bool → AttentionSet
set_of power medium reservations registrations released mode =
    record {
      power_on = power;
      medium_changed = medium;
      reservations_preempted = reservations;
      registrations_preempted = registrations;
      reservations_released = released;
      mode_changed = mode;
    }

-- sets with the same members are the same
pub same_set : (x y : AttentionSet) → ((a : Attention) → contains a x ≡ contains a y) → x ≡ y
same_set x y each =
    let power : x.power_on ≡ y.power_on = each PowerOn in
    let medium : x.medium_changed ≡ y.medium_changed = each MediumChanged in
    let reservations : x.reservations_preempted ≡ y.reservations_preempted = each ReservationsPreempted in
    let registrations : x.registrations_preempted ≡ y.registrations_preempted = each RegistrationsPreempted in
    let released : x.reservations_released ≡ y.reservations_released = each ReservationsReleased in
    let mode : x.mode_changed ≡ y.mode_changed = each ModeChanged in
    let fields : set_of x.power_on x.medium_changed x.reservations_preempted x.registrations_preempted
    x.reservations_released x.mode_changed
    ≡ set_of y.power_on y.medium_changed y.reservations_preempted y.registrations_preempted
    y.reservations_released y.mode_changed = cc in
    fields

pub contains_by_bits : (a : Attention) (bits : ℕ) → bits < 64
    → contains a (set_of_bits bits) ≡ (bit_and bits (bit_of a) == bit_of a)
contains_by_bits =
    agree (λ a k. contains a (set_of_bits k)) (λ a k. bit_and k (bit_of a) == bit_of a) refl

pub with_by_bits : (a : Attention) (bits : ℕ) → bits < 64
    → set_of_bits (bit_or bits (bit_of a)) ≡ with_attention a (set_of_bits bits)
with_by_bits a bits fits =
    same_set _ _ (λ b. agree_at_both (λ b a k. contains b (set_of_bits (bit_or k (bit_of a))))
    (λ b a k. contains b (with_attention a (set_of_bits k))) refl b a bits fits)

pub without_by_bits : (a : Attention) (bits : ℕ) → bits < 64
    → set_of_bits (bit_and bits (2 ^ 8 - 1 - bit_of a)) ≡ without a (set_of_bits bits)
without_by_bits a bits fits =
    same_set _ _ (λ b. agree_at_both (λ b a k. contains b (set_of_bits (bit_and k (2 ^ 8 - 1 - bit_of a))))
    (λ b a k. contains b (without a (set_of_bits k))) refl b a bits fits)

pub or_fits : (a : Attention) (bits : ℕ) → bits < 64 → bit_or bits (bit_of a) < 64
or_fits a bits fits =
    ltb-true _ 64 (agree (λ a k. ltb (bit_or k (bit_of a)) 64) (λ a k. true) refl a bits fits)

pub and_not_fits : (a : Attention) (bits : ℕ) → bits < 64 → bit_and bits (2 ^ 8 - 1 - bit_of a) < 64
and_not_fits a bits fits =
    ltb-true _ 64 (agree (λ a k. ltb (bit_and k (2 ^ 8 - 1 - bit_of a)) 64) (λ a k. true) refl a bits fits)

-- the greater of two bits is 1 exactly where one of them is
either_bit : (x y : ℕ) → x < 2 → y < 2 → (max x y == 1) ≡ (x == 1 || y == 1)
either_bit zero zero h k = refl
either_bit zero (suc zero) h k = refl
either_bit zero (suc (suc y)) h k = absurd (omega arith)
either_bit (suc zero) zero h k = refl
either_bit (suc zero) (suc zero) h k = refl
either_bit (suc zero) (suc (suc y)) h k = absurd (omega arith)
either_bit (suc (suc x)) y h k = absurd (omega arith)

bit_of_either : (a b place : ℕ) → (bit_at (bit_or a b) place == 1) ≡ (bit_at a place == 1 || bit_at b place == 1)
bit_of_either a b place =
    ap (λ (bit : ℕ). bit == 1) (bit_at_or a b place)
    ∙ either_bit (bit_at a place) (bit_at b place) (bit_at-lt a place) (bit_at-lt b place)

pub union_by_bits : (one other : ℕ) → set_of_bits (bit_or one other) ≡ union (set_of_bits one) (set_of_bits other)
union_by_bits one other =
    let power = bit_of_either one other 0 in
    let medium = bit_of_either one other 1 in
    let reservations = bit_of_either one other 2 in
    let registrations = bit_of_either one other 3 in
    let released = bit_of_either one other 4 in
    let mode = bit_of_either one other 5 in
    cc

pub both_fit : (one other : ℕ) → one < 64 → other < 64 → bit_or one other < 64
both_fit one other fits too = or_lt 6 one other fits too
