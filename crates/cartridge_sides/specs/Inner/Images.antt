-- One image of a side: how it begins, and what it is.
use Rattle.std.proofs.Common.{◌≡◌, ◌⊎◌, inl, inr, ℕ, ◌<◌, List, ◌++◌, drop, get_or, sym, ◌∙◌, ap, subst}
use Rattle.std.proofs.lemmas.Bool.{cases_eq}
use Rattle.gate_journal.specs.Side.{OPEN}
use Rattle.gate_journal.specs.Inner.Deciding.{Decidable, same}
use Rattle.gate_journal.specs.Heads.{Head, epoch_of, spell_side_head}
use Rattle.cartridge_sides.specs.Pairs.{begun, IsOpenSide, IsClosedSide, YieldsTo}
use Rattle.cartridge_sides.specs.Passes.{HasStart}
use Rattle.cartridge_sides.specs.Inner.{IsOpenWith, IsHeadless}
use Rattle.cartridge_sides.specs.Inner.Starts.{has_head, same_head}

-- the ten bytes have two gates and a rest, each only one
pub same_pair : (a b p q : ℕ) (xs ys : List ℕ) → begun a p ++ xs ≡ begun b q ++ ys → p ≡ q
same_pair a b p q xs ys e = ap (λ (l : List ℕ). get_or l 9 0) e

pub same_side : (a b p q : ℕ) (xs ys : List ℕ) → begun a p ++ xs ≡ begun b q ++ ys → a ≡ b
same_side a b p q xs ys e = ap (λ (l : List ℕ). get_or l 0 0) e

pub same_rest : (a b p q : ℕ) (xs ys : List ℕ) → begun a p ++ xs ≡ begun b q ++ ys → xs ≡ ys
same_rest a b p q xs ys e = ap (λ (l : List ℕ). drop 10 l) e

-- the cases of one image: without the ten bytes of a side; closed; open with a head; open without one (own)
abbrev pub View : List ℕ → Type 0
View image = (HasStart image → ⊥)
    ⊎ ((pair : ℕ) × (IsClosedSide pair image ⊎ (IsOpenWith pair image ⊎ IsHeadless pair image)))

start_known : (image : List ℕ) → Decidable (HasStart image)
start_known image = elim (same (begun (get_or image 0 0) (get_or image 9 0) ++ drop 10 image) image) [
  | inl e ↦ inl (get_or image 0 0, get_or image 9 0, drop 10 image, sym e)
  | inr never ↦ inr (λ w. never (
      (λ i. begun (get_or (w.3 i) 0 0) (get_or (w.3 i) 9 0) ++ drop 10 (w.3 i)) ∙ sym w.3))
]

pub viewed : (image : List ℕ) → View image
viewed image = elim (start_known image) [
  | inr never ↦ inl never
  | inl (side, pair, rest, is) ↦ inr (
    pair,
    elim (cases_eq side OPEN) [
      | inr shut ↦ inl (side, rest, shut, is)
      | inl e ↦
          let opened : image ≡ begun OPEN pair ++ rest = is ∙ ap (λ (g : ℕ). begun g pair ++ rest) e in
          inr (elim (has_head rest) [
            | inl w ↦ inl (
              w.0,
              w.1,
              record {
                head_is = w.2;
                image_is = opened ∙ ap (λ (l : List ℕ). begun OPEN pair ++ l) w.3;
              },
            )
            | inr never ↦ inr (rest, opened, never)
          ])
    ],
  )
]

-- an open side has one head
pub one_side : (p q : ℕ) (h k : Head) (r s image : List ℕ) → IsOpenSide p h r image → IsOpenSide q k s image →
    (p ≡ q) × ((h ≡ k) × (r ≡ s))
one_side p q h k r s image a b =
    let e = sym a.image_is ∙ b.image_is in (
      same_pair OPEN OPEN p q (spell_side_head h ++ r) (spell_side_head k ++ s) e,
      same_head h k r s a.head_is b.head_is (same_rest OPEN OPEN p q (spell_side_head h ++ r)
          (spell_side_head k ++ s) e),
    )

-- an open side is not closed
pub open_shut : (p q : ℕ) (h : Head) (r image : List ℕ) → IsOpenSide p h r image → IsClosedSide q image → ⊥
open_shut p q h r image a (gate, rest, shut, is) =
    shut (same_side gate OPEN q p rest (spell_side_head h ++ r) (sym is ∙ a.image_is))

-- an open side that yields to an epoch has a lesser one
pub lesser : (epoch p q : ℕ) (h : Head) (r image : List ℕ) → IsOpenSide p h r image → YieldsTo epoch q image →
    epoch_of h < epoch
lesser epoch p q h r image a (inl shut) = absurd (open_shut p q h r image a shut)
lesser epoch p q h r image a (inr (k, s, b, less)) =
    subst (λ (g : Head). epoch_of g < epoch) (sym (one_side p q h k r s image a b).1.0) less

-- the pair gate of an image that yields
pub yields_start : (epoch p : ℕ) (image : List ℕ) → YieldsTo epoch p image →
    (side : ℕ) × (rest : List ℕ) × (image ≡ begun side p ++ rest)
yields_start epoch p image (inl (gate, rest, shut, is)) = (gate, rest, is)
yields_start epoch p image (inr (h, rest, side, less)) = (OPEN, spell_side_head h ++ rest, side.image_is)

pub headless_open : (p q : ℕ) (h : Head) (r image : List ℕ) → IsHeadless p image → IsOpenSide q h r image → ⊥
headless_open p q h r image (rest, is, never) a =
    never (h, r, a.head_is, same_rest OPEN OPEN p q rest (spell_side_head h ++ r) (sym is ∙ a.image_is))

pub headless_yields : (p epoch q : ℕ) (image : List ℕ) → IsHeadless p image → YieldsTo epoch q image → ⊥
headless_yields p epoch q image (rest, is, never) (inl (gate, more, shut, was)) =
    shut (same_side gate OPEN q p more rest (sym was ∙ is))
headless_yields p epoch q image headless (inr (k, s, b, less)) = headless_open p q k s image headless b
