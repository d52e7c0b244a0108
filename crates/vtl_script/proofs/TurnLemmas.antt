-- The commands of a phase in the order of their turns.
use Rattle.std.proofs.Common.{◌≡◌, ℕ, ◌+◌, ◌<◌, ◌≤◌, suc, zero, Bool, true, false, cond, not, ◌&&◌, nat_lt, ◌==◌, List, [], ◌∷◌, ◌++◌, length, get_or, filter, flat_map, refl, sym, ap, ◌∙◌, arith, Less, Equal, Greater}
use Rattle.std.proofs.lemmas.Bool.Decides.{nat_tests}
use Rattle.std.proofs.lemmas.List.Sums.{AllPass-from_list_all, list_all-from_AllPass}
use Rattle.std.proofs.lemmas.List.Sorted.{All-permutation}
use Rattle.std.specs.List.{list_all, range_with_len}
use Rattle.std.specs.List.Sorted.{IsNonDecreasingBy, IsPermutation, IsStableByKey, ties}
use Rattle.std.specs.Ordering.{nat_cmp, is_lt}
use Rattle.vtl_script.specs.declared.lines.Line.{Line}
use Rattle.vtl_script.specs.Items.{by_host, has_host}

abbrev of_host : ℕ → List Line → List Line
of_host host lines = filter (λ line. line.host == host) lines

-- the commands of so many hosts from one on
from : ℕ → ℕ → List Line → List Line
from first count lines = flat_map (λ host. of_host host lines) (range_with_len first count)

from-none : (first : ℕ) (lines : List Line) → from first zero lines ≡ []
unfolding from
from-none first lines = refl

from-more : (first count : ℕ) (lines : List Line)
    → from first (suc count) lines ≡ of_host first lines ++ from (first + 1) count lines
unfolding from
from-more first count lines = refl

all_hosts : (lines : List Line) → by_host lines ≡ from 1 64 lines
unfolding from by_host
all_hosts lines = refl

-- each host is at least this one
AtLeast : ℕ → List Line → Type 0
AtLeast host [] = Unit {0}
AtLeast host (line ∷ lines) = (host ≤ line.host) × AtLeast host lines

least : (host : ℕ) (lines : List Line) → ((j : ℕ) (d : Line) → j < length lines → host ≤ (get_or lines j d).host)
    → AtLeast host lines
unfolding AtLeast
least host [] all = tt
least host (line ∷ lines) all = (all 0 line (omega arith), least host lines (λ j d h. all (suc j) d (omega (arith, h))))

keep : (line : Line) (lines : List Line) (host : ℕ) (b : Bool) → (line.host == host) ≡ b
    → of_host host (line ∷ lines) ≡ cond b (line ∷ of_host host lines) (of_host host lines)
keep line lines host b is = rw is refl

-- a host below them all has no command
none_below : (host first : ℕ) (lines : List Line) → AtLeast first lines → host < first → of_host host lines ≡ []
unfolding AtLeast
none_below host first [] all below = refl
none_below host first (line ∷ lines) all below =
    let other : (line.host == host) ≡ false = let h = all.0 in grind (arith, nat_tests) in
    keep line lines host false other ∙ none_below host first lines all.1 below

-- a command of a host before the first
from-before : (count first : ℕ) (line : Line) (lines : List Line) → line.host < first
    → from first count (line ∷ lines) ≡ from first count lines
from-before zero first line lines before = from-none first (line ∷ lines) ∙ sym (from-none first lines)
from-before (suc count) first line lines before =
    let other : (line.host == first) ≡ false = grind (arith, nat_tests) in
    from-more first count (line ∷ lines)
    ∙ rw (keep line lines first false other, from-before count (first + 1) line lines (omega (arith, before)))
    (sym (from-more first count lines))

from-first : (count first : ℕ) (line : Line) (lines : List Line) (b : Bool) → (line.host == first) ≡ b
    → AtLeast line.host lines → first ≤ line.host → line.host < first + suc count
    → ((first < line.host) → from (first + 1) count (line ∷ lines) ≡ line ∷ from (first + 1) count lines)
    → from first (suc count) (line ∷ lines) ≡ line ∷ from first (suc count) lines
from-first count first line lines true is all low high rest =
    let same : line.host ≡ first = grind (arith, nat_tests) in
    from-more first count (line ∷ lines)
    ∙ rw (keep line lines first true is, from-before count (first + 1) line lines (omega (arith, same)))
    (ap (λ (xs : List Line). line ∷ xs) (sym (from-more first count lines)))
from-first count first line lines false is all low high rest =
    let above : first < line.host = grind (arith, nat_tests) in
    let empty = none_below first line.host lines all above in
    from-more first count (line ∷ lines)
    ∙ rw (keep line lines first false is, empty, rest above)
    (ap (λ (xs : List Line). line ∷ xs)
    (sym (from-more first count lines ∙ ap (λ (xs : List Line). xs ++ from (first + 1) count lines) empty)))

-- the first command comes first
from-cons : (count first : ℕ) (line : Line) (lines : List Line) → AtLeast line.host lines → first ≤ line.host
    → line.host < first + count → from first count (line ∷ lines) ≡ line ∷ from first count lines
from-cons zero first line lines all low high = absurd (omega (arith, low, high))
from-cons (suc count) first line lines all low high =
    from-first count first line lines (line.host == first) refl all low high
    (λ above. from-cons count (first + 1) line lines all (omega (arith, above)) (omega (arith, high)))

from-empty : (count first : ℕ) → from first count [] ≡ []
from-empty zero first = from-none first []
from-empty (suc count) first = from-more first count [] ∙ from-empty count (first + 1)

rising_from : (lines : List Line) → IsNonDecreasingBy (λ line. line.host) lines → list_all has_host lines ≡ true
    → from 1 64 lines ≡ lines
rising_from [] rising hosts = from-empty 64 1
rising_from (line ∷ lines) rising hosts =
    let low : 1 ≤ line.host = grind (arith, nat_tests) in
    let high : line.host < 1 + 64 = grind (arith, nat_tests) in
    let others : list_all has_host lines ≡ true = grind (arith, nat_tests) in
    from-cons 64 1 line lines (least line.host lines (λ j d h. rising 0 (suc j) d (omega arith) (omega (arith, h))))
    low high
    ∙ ap (λ (xs : List Line). line ∷ xs)
    (rising_from lines (λ i j d le h. rising (suc i) (suc j) d (omega (arith, le)) (omega (arith, h))) others)

-- commands whose hosts rise are in the order of their turns
pub by_host-rising : (lines : List Line) → IsNonDecreasingBy (λ line. line.host) lines → list_all has_host lines ≡ true
    → by_host lines ≡ lines
by_host-rising lines rising hosts = all_hosts lines ∙ rising_from lines rising hosts

lt_is : (less same : Bool) → is_lt (cond less Less (cond same Equal Greater)) ≡ less
lt_is true same = refl
lt_is false true = refl
lt_is false false = refl

ties_alike : (host other : ℕ) → (not (nat_lt host other) && not (nat_lt other host)) ≡ (other == host)
ties_alike host other = grind (arith, nat_tests)

tie_is : (host other : ℕ) → (not (is_lt (nat_cmp host other)) && not (is_lt (nat_cmp other host))) ≡ (other == host)
tie_is host other =
    rw (lt_is (nat_lt host other) (host == other), lt_is (nat_lt other host) (other == host)) (ties_alike host other)

filter_alike : (p q : Line → Bool) → ((line : Line) → p line ≡ q line) → (lines : List Line)
    → filter p lines ≡ filter q lines
filter_alike p q alike [] = refl
filter_alike p q alike (line ∷ lines) = rw (alike line, filter_alike p q alike lines) refl

from-alike : (count first : ℕ) (xs ys : List Line) → ((host : ℕ) → of_host host ys ≡ of_host host xs)
    → from first count ys ≡ from first count xs
from-alike zero first xs ys alike = from-none first ys ∙ sym (from-none first xs)
from-alike (suc count) first xs ys alike = from-more first count ys
    ∙ rw (alike first, from-alike count (first + 1) xs ys alike) (sym (from-more first count xs))

-- a stable sort by host puts commands in the order of their turns
pub by_host-sorted : (xs ys : List Line) → IsPermutation xs ys → IsNonDecreasingBy (λ line. line.host) ys
    → IsStableByKey (λ line. line.host) nat_cmp xs ys → list_all has_host xs ≡ true → ys ≡ by_host xs
by_host-sorted xs ys permuted rising stable hosts =
    let hosts' : list_all has_host ys ≡ true = list_all-from_AllPass has_host ys
    (All-permutation (λ line. has_host line ≡ true) xs ys permuted (AllPass-from_list_all has_host xs hosts)) in
    let alike : (host : ℕ) → of_host host ys ≡ of_host host xs = λ host.
    let probe : Line = record { host = host; drive = 0; cdb = []; sent = [] } in
    filter_alike (λ line. line.host == host) (ties (λ x y. is_lt (nat_cmp x.host y.host)) probe)
    (λ line. sym (tie_is host line.host)) ys
    ∙ stable probe
    ∙ filter_alike (ties (λ x y. is_lt (nat_cmp x.host y.host)) probe) (λ line. line.host == host)
    (λ line. tie_is host line.host) xs in
    sym (rising_from ys rising hosts') ∙ from-alike 64 1 xs ys alike ∙ sym (all_hosts xs)

pub by_host-none : by_host [] ≡ []
unfolding by_host
by_host-none = refl
