-- The beginnings of the two images of a pair.
use Rattle.std.proofs.Common.{◌≡◌, ◌≢◌, ◌⊎◌, inl, inr, ℕ, List, [], ◌++◌, sym, ◌∙◌, arith, true, false, eqb}
use Rattle.std.proofs.lemmas.Bool.Decides.{eqb_tells}
use Rattle.gate_journal.specs.Heads.{Head, epoch_of, spell_side_head}
use Rattle.gate_journal.specs.Side.{CLOSED, OPEN}
use Rattle.cartridge_sides.specs.declared.which.Which.{Which}
use Rattle.cartridge_sides.specs.declared.which.Which.TheVariants.{First, Second}
use Rattle.cartridge_sides.specs.Inner.Images.{same_pair, yields_start}
use Rattle.cartridge_sides.specs.Pairs.{IsOpenSide, StandsBeside, YieldsTo, begun}
use Rattle.cartridge_sides.specs.Passes.{HasStart, IsPrepared, IsShutPair}
use Rattle.side_reclaim.specs.Ready.{GivesSide, resting}

open_start : (pair : ℕ) (head : Head) (rest image : List ℕ) → IsOpenSide pair head rest image → HasStart image
open_start pair head rest image side = (OPEN, pair, spell_side_head head ++ rest, side.image_is)

yield_start : (epoch pair : ℕ) (image : List ℕ) → YieldsTo epoch pair image → HasStart image
yield_start epoch pair image yields =
    let found = yields_start epoch pair image yields in (found.0, pair, found.1, found.2)

-- the first image begins as a side
pub first_start : (which : Which) (head : Head) (bodies : List (List ℕ)) (one two : List ℕ)
    → GivesSide which head bodies (one, two) → HasStart one
first_start First head bodies one two gives =
    open_start gives.1.3.0 head _ one gives.1.3.1
first_start Second head bodies one two gives = yield_start (epoch_of head) OPEN one gives.1.3.3

open_not_shut : (image : List ℕ) (side : ℕ) (rest : List ℕ) → image ≡ begun side OPEN ++ rest → IsShutPair image → ⊥
open_not_shut image side rest is shut =
    shut.3 (same_pair shut.0 side shut.1 OPEN shut.2 rest (sym shut.4 ∙ is))

-- where the second side counts, the pair gate is open
pub second_paired : (head : Head) (bodies : List (List ℕ)) (one two : List ℕ)
    → GivesSide Second head bodies (one, two) → IsShutPair one → ⊥
second_paired head bodies one two gives =
    let found = yields_start (epoch_of head) OPEN one gives.1.3.3 in open_not_shut one found.0 found.1 found.2

beside_start : (pair : ℕ) (head : Head) (rest one two : List ℕ) → IsOpenSide pair head rest one
    → (IsShutPair one → ⊥) → StandsBeside pair head two → HasStart two
beside_start pair head rest one two side paired (inl alone) =
    absurd (paired (OPEN, pair, spell_side_head head ++ rest, alone.0, side.image_is))
beside_start pair head rest one two side paired (inr beside) = yield_start (epoch_of head) beside.1.0 two beside.1.2

-- where the pair gate is open, the side that does not count begins as a side too
pub resting_start : (which : Which) (head : Head) (bodies : List (List ℕ)) (one two : List ℕ)
    → GivesSide which head bodies (one, two) → (IsShutPair one → ⊥) → HasStart (resting which (one, two))
resting_start First head bodies one two gives paired =
    beside_start gives.1.3.0 head _ one two gives.1.3.1 paired gives.1.3.2
resting_start Second head bodies one two gives paired = first_start Second head bodies one two gives

-- the pair gate of an image that begins as a side is closed or not
pub shut_or_not : (image : List ℕ) → HasStart image → IsShutPair image ⊎ (IsShutPair image → ⊥)
shut_or_not image start = by (eqb_tells start.1 OPEN)
  where
    by : ((eqb start.1 OPEN ≡ true) × (start.1 ≡ OPEN)) ⊎ ((eqb start.1 OPEN ≡ false) × (start.1 ≢ OPEN))
        → IsShutPair image ⊎ (IsShutPair image → ⊥)
    by (inl same) =
        inr (open_not_shut image start.0 start.2 (start.3 ∙ (λ i. begun start.0 (same.1 i) ++ start.2)))
    by (inr other) = inl (start.0, start.1, start.2, other.1, start.3)

closed_is_not_open : CLOSED ≢ OPEN
closed_is_not_open same = absurd (omega arith)

-- ten bytes with closed gates are a prepared side
pub prepared_of : (image : List ℕ) → image ≡ begun CLOSED CLOSED → IsPrepared image
prepared_of image is = (CLOSED, closed_is_not_open, (CLOSED, [], closed_is_not_open, is))
