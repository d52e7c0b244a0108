-- Lists of drives that have accepted no change.
use Rattle.std.proofs.Common.{◌≡◌, ◌≤◌, ◌<◌, ◌+◌, ◌∙◌, ℕ, List, length, get_or, take, sum_by, Option, None, Some, Fits, w64, ap, sym, subst, arith}
use Rattle.std.proofs.lemmas.List.{get_or_default, take_more}
use Rattle.std.proofs.lemmas.List.Elements.{All-push}
use Rattle.std.proofs.lemmas.List.Sums.{sum_by_more}
use Rattle.std.specs.List.{All}
use Rattle.bay_moves.specs.Elements.{BayState}
use Rattle.library.specs.Counts.{AcceptedNone, one_if_there}

-- a count of places of sixteen, and one more
pub counts_fit : (at count more one all : ℕ) → count ≤ at → at < all → all ≡ 16 → more ≡ one → one ≤ 1
    → Fits w64 (count + more)
counts_fit at count more one all few within sixteen is most = omega arith

module _ {D : Type 0} where
  -- of the places of a list up to one, `count` have a drive, and none of these has accepted a change
  pub record AreFresh (row : List (Option (BayState D))) (at count : ℕ) : Type 0 where
    pub filled : sum_by one_if_there (take at row) ≡ count
    pub fresh : All (λ bay. AcceptedNone bay) (take at row)
    pub few : count ≤ at

  pub at_most_one : (bay : Option (BayState D)) → one_if_there bay ≤ 1
  at_most_one None = omega arith
  at_most_one (Some bay) = omega arith

  pub one_more : (row : List (Option (BayState D))) (at count more : ℕ) (bay : Option (BayState D))
      → at < length row → bay ≡ get_or row at bay → more ≡ one_if_there bay → AcceptedNone bay
      → AreFresh row at count → AreFresh row (at + 1) (count + more)
  one_more row at count more bay within is counts none before =
      let here : get_or row at None ≡ bay = get_or_default row at None bay within ∙ sym is in
      let value : one_if_there (get_or row at None) ≡ more =
      ap (λ (b : Option (BayState D)). one_if_there b) here ∙ sym counts in
      let step = sum_by_more one_if_there row at None within in
      let most = at_most_one bay in
      record {
        filled = omega (arith, step, value, before.filled);
        fresh =
            subst (λ (bays : List (Option (BayState D))). All (λ one. AcceptedNone one) bays)
            (sym (take_more row at None within))
            (All-push (λ one. AcceptedNone one) (take at row) (get_or row at None) before.fresh
            (subst (λ (b : Option (BayState D)). AcceptedNone b) (sym here) none));
        few = omega (arith, before.few, most, counts);
      }
