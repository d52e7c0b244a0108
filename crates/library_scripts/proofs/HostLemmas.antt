-- Hosts that have the numbers from 1 on.
use Rattle.std.proofs.Common.{◌≡◌, ◌≢◌, ◌+◌, ℕ, nat_eq, false, List, map, refl, sym, ap, ◌∙◌, subst, arith}
use Rattle.std.proofs.lemmas.Bool.Decides.{nat_tests}
use Rattle.std.proofs.lemmas.List.FromFn.{get_or-map-range_with_len, get_or-range_with_len, length-map-range_with_len, length-range_with_len}
use Rattle.std.proofs.lemmas.Map.Keys.{IsDistinct-from_apart}
use Rattle.std.specs.List.{IsDistinct, range_with_len}
use Rattle.library.specs.Seats.{SeatState}
use Rattle.library.specs.Counts.{new_seat}
use Rattle.library_scripts.specs.Inner.InPlace.{AreInPlace}

-- numbers that differ are not found equal
unequal_if : (a b : ℕ) → a ≢ b → nat_eq a b ≡ false
unequal_if a b differ = grind (arith, nat_tests)

-- they differ
pub hosts_differ : (hosts : List ℕ) → hosts ≡ range_with_len 1 64 → IsDistinct nat_eq hosts
hosts_differ hosts is =
    subst (IsDistinct nat_eq) (sym is)
    (IsDistinct-from_apart nat_eq (range_with_len 1 64) (λ i j d less within.
    let long = length-range_with_len 1 64 in
    let one = get_or-range_with_len 1 64 i d (omega (arith, less, within, long)) in
    let two = get_or-range_with_len 1 64 j d (omega (arith, within, long)) in
    unequal_if _ _ (λ same. absurd (omega (arith, same, one, two, less)))))

-- each has its place
pub hosts_in_place : (hosts : List ℕ) → hosts ≡ range_with_len 1 64 → AreInPlace (map new_seat hosts)
hosts_in_place hosts is =
    subst (λ (h : List ℕ). AreInPlace (map new_seat h)) (sym is) (record {
      all = length-map-range_with_len new_seat 1 64;
      each = λ i d less.
          ap (λ (s : SeatState). s.nexus) (get_or-map-range_with_len new_seat 1 64 i (1 + i) d less refl)
          ∙ omega arith;
    })
