-- The side that an image stands for, as a function.
use Rattle.std.specs.Prelude.{◌≡◌, ℕ, List, ◌∷◌, Option, None, Some}
use Rattle.std.proofs.Common.{inl, inr, ap, subst}
use Rattle.gate_journal.specs.Side.{Front, StandsFor, IsDecided}
use Rattle.gate_journal.specs.Inner.Sides.{decided, one_side, sound, never_ours, stands}

-- the front and the bodies, where the image was decided to stand for a side (own)
abbrev pub side_decided : {image : List ℕ} → IsDecided image → Option (Front × List (List ℕ))
side_decided (inl side) = Some (side.0, side.1)
side_decided (inr other) = None

-- the front and the bodies that an image stands for, if any (own)
abbrev pub side_on : List ℕ → Option (Front × List (List ℕ))
side_on image = side_decided (decided image)

-- where an image stands for a side, the function gives that side (own)
pub side_on_is : (image : List ℕ) (front : Front) (bodies : List (List ℕ)) →
    StandsFor front bodies image → side_on image ≡ Some (front, bodies)
side_on_is image front bodies is = by (decided image)
  where
    by : (d : IsDecided image) → side_decided d ≡ Some (front, bodies)
    by (inl s) = let same = one_side image s.0 front s.1 bodies s.2 is in λ i. Some (same.0 i, same.1 i)
    by (inr (inl never)) =
        absurd (never_ours image front bodies (is.1.0 ∷ is.1.1) (stands image front bodies is) never)
    by (inr (inr broken)) = absurd (sound image front bodies broken.0 is broken.1)

-- where the function gives a side, the image stands for it (own)
pub side_on_stands : (image : List ℕ) (front : Front) (bodies : List (List ℕ)) →
    side_on image ≡ Some (front, bodies) → StandsFor front bodies image
side_on_stands image front bodies = by (decided image)
  where
    pick : Option (Front × List (List ℕ)) → Front × List (List ℕ)
    pick None = (front, bodies)
    pick (Some found) = found

    by : (d : IsDecided image) → side_decided d ≡ Some (front, bodies) →
        StandsFor front bodies image
    by (inl s) e = subst (λ (x : Front × List (List ℕ)). StandsFor x.0 x.1 image) (ap pick e) s.2
    by (inr other) e = absurd (cc)
