-- The first 71 bytes of each image decide which side counts.
use Rattle.std.proofs.Common.{◌≡◌, inl, inr, ℕ, ◌+◌, ◌-◌, List, ◌++◌, length, take, drop, sym, ◌∙◌, ap, arith, append_assoc, take-append-drop}
use Rattle.std.proofs.Math.Seq.{take-append-add}
use Rattle.gate_journal.specs.Heads.{Head, epoch_of, spell_side_head}
use Rattle.gate_journal.specs.Side.{OPEN}
use Rattle.gate_journal.specs.Inner.HeadsRead.{short_head}
use Rattle.cartridge_sides.specs.declared.which.Which.{Which}
use Rattle.cartridge_sides.specs.declared.which.Which.TheVariants.{First, Second}
use Rattle.cartridge_sides.specs.Pairs.{begun, SideCounts, IsClosedSide, IsOpenSide, YieldsTo}

-- the bytes that are looked at
abbrev pub front : List ℕ → List ℕ
front image = take 71 image

module _ (image : List ℕ) where
  abbrev behind : List ℕ
  behind = drop 71 image

  whole : image ≡ front image ++ behind
  whole = sym (take-append-drop 71 image)

  more_open : (p : ℕ) (h : Head) (rest : List ℕ) → IsOpenSide p h rest (front image) →
      IsOpenSide p h (rest ++ behind) image
  more_open p h rest side = record {
    head_is = side.head_is;
    image_is = whole ∙ ap (λ (l : List ℕ). l ++ behind) side.image_is
        ∙ append_assoc (begun OPEN p) (spell_side_head h ++ rest) behind
        ∙ ap (λ (l : List ℕ). begun OPEN p ++ l) (append_assoc (spell_side_head h) rest behind);
  }

  more_closed : (p : ℕ) → IsClosedSide p (front image) → IsClosedSide p image
  more_closed p (gate, rest, shut, is) = (
    gate,
    rest ++ behind,
    shut,
    whole ∙ ap (λ (l : List ℕ). l ++ behind) is ∙ append_assoc (begun gate p) rest behind,
  )

  more_yields : (epoch p : ℕ) → YieldsTo epoch p (front image) → YieldsTo epoch p image
  more_yields epoch p (inl closed) = inl (more_closed p closed)
  more_yields epoch p (inr (h, rest, side, less)) = inr (h, rest ++ behind, more_open p h rest side, less)

  less_open : (p : ℕ) (h : Head) (rest : List ℕ) → IsOpenSide p h rest image →
      IsOpenSide p h (take (61 - length (spell_side_head h)) rest) (front image)
  less_open p h rest side =
      let left = 61 - length (spell_side_head h) in
      let sized : 61 ≡ length (spell_side_head h) + left = omega (arith, short_head h side.head_is.spelled) in
      record {
        head_is = side.head_is;
        image_is = ap (λ (l : List ℕ). take 71 l) side.image_is
            ∙ ap (λ (n : ℕ). begun OPEN p ++ take n (spell_side_head h ++ rest)) sized
            ∙ ap (λ (l : List ℕ). begun OPEN p ++ l) (take-append-add (spell_side_head h) rest left);
      }

  less_closed : (p : ℕ) → IsClosedSide p image → IsClosedSide p (front image)
  less_closed p (gate, rest, shut, is) = (gate, take 61 rest, shut, ap (λ (l : List ℕ). take 71 l) is)

  less_yields : (epoch p : ℕ) → YieldsTo epoch p image → YieldsTo epoch p (front image)
  less_yields epoch p (inl closed) = inl (less_closed p closed)
  less_yields epoch p (inr (h, rest, side, less)) =
      inr (h, take (61 - length (spell_side_head h)) rest, less_open p h rest side, less)

-- a side that counts by the first bytes counts
pub more_counts : (which : Which) (h : Head) (rest first second : List ℕ) →
    SideCounts which h rest (front first) (front second) →
    (all : List ℕ) × SideCounts which h all first second
more_counts First h rest first second (p, side, inl alone) =
    (rest ++ drop 71 first, (p, more_open first p h rest side, inl alone))
more_counts First h rest first second (p, side, inr (is, (o, shut, y))) = (
  rest ++ drop 71 first,
  (
    p,
    more_open first p h rest side,
    inr (
      is,
      (
        o,
        shut,
        more_yields second (epoch_of h) o y,
      ),
    ),
  ),
)
more_counts Second h rest first second (p, shut, side, y) =
    (rest ++ drop 71 second, (p, shut, more_open second p h rest side, more_yields first (epoch_of h) OPEN y))

-- a side that counts does so by the first bytes
pub less_counts : (which : Which) (h : Head) (rest first second : List ℕ) → SideCounts which h rest first second →
    (some : List ℕ) × SideCounts which h some (front first) (front second)
less_counts First h rest first second (p, side, inl alone) =
    (take (61 - length (spell_side_head h)) rest, (p, less_open first p h rest side, inl alone))
less_counts First h rest first second (p, side, inr (is, (o, shut, y))) = (
  take (61 - length (spell_side_head h)) rest,
  (p, less_open first p h rest side, inr (is, (o, shut, less_yields second (epoch_of h) o y))),
)
less_counts Second h rest first second (p, shut, side, y) = (
  take (61 - length (spell_side_head h)) rest,
  (p, shut, less_open second p h rest side, less_yields first (epoch_of h) OPEN y),
)
