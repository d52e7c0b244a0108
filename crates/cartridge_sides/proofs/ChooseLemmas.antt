-- What is found on two images decides which side counts.
use Rattle.std.proofs.Common.{◌≡◌, ◌≢◌, inl, inr, ℕ, ◌<◌, ◌≤◌, List, [], ◌∷◌, ◌++◌, length, get_or, take, drop, sym, ◌∙◌, ap, subst, arith, take-append-drop}
use Rattle.std.specs.Prelude.{Option, None, Some}
use Rattle.std.proofs.lemmas.List.{drop-drop, drop_more}
use Rattle.gate_journal.specs.declared.heads.Copied.{Copied}
use Rattle.gate_journal.specs.declared.heads.ParsedHead.{ParsedHead}
use Rattle.gate_journal.specs.Heads.{Head, epoch_in, epoch_of, spell_side_head}
use Rattle.gate_journal.specs.Side.{OPEN}
use Rattle.cartridge_sides.specs.declared.choosing.Begins.TheVariants.{Closed, Open, Headless}
use Rattle.cartridge_sides.specs.declared.choosing.Counted.{Counted}
use Rattle.cartridge_sides.specs.declared.which.Which.TheVariants.{First, Second}
use Rattle.cartridge_sides.specs.Pairs.{begun, IsNoPair, IsOpenSide, IsClosedSide}
use Rattle.cartridge_sides.specs.Choosing.{Chooses}
use Rattle.cartridge_sides.specs.Passes.{HasStart}
use Rattle.cartridge_sides.specs.Inner.{HasOpenPair, IsGreater, OpensImage}
use Rattle.cartridge_sides.proofs.CutLemmas.{front, less_counts, more_counts}
use Rattle.cartridge_sides.specs.Inner.Counting.{both_closed, both_open, first_headless, no_first, no_second, not_alone, same_epochs, second_headless}
use Rattle.cartridge_sides.specs.Inner.Images.{headless_open, one_side, open_shut}

-- what the first bytes of two images show holds of the images
pub chooses_whole : (first second : List ℕ) (found : Option Counted) → Chooses (front first) (front second) found →
    Chooses first second found
chooses_whole first second (Some counted) (h, rest, counts, parsed) =
    let all = more_counts counted.which h rest first second counts in (h, all.0, all.1, parsed)
chooses_whole first second None never = λ which h rest counts.
    let some = less_counts which h rest first second counts in never which h some.0 some.1

pub start_there : (image : List ℕ) → 10 ≤ length image →
    take 8 (drop 1 image) ≡ 86 ∷ 84 ∷ 76 ∷ 67 ∷ 65 ∷ 82 ∷ 84 ∷ 49 ∷ [] → HasStart image
start_there image long is = (
  get_or image 0 0,
  get_or image 9 0,
  drop 10 image,
  drop_more image 0 0 (omega (arith, long))
      ∙ ap (λ (l : List ℕ). get_or image 0 0 ∷ l) (sym (take-append-drop 8 (drop 1 image))
      ∙ (let e = drop-drop 8 1 image ∙ drop_more image 9 0 (omega (arith, long)) in λ i. is i ++ e i)),
)

-- the gates of an open side
gate_at : (p : ℕ) (h : Head) (rest image : List ℕ) → IsOpenSide p h rest image → get_or image 9 0 ≡ p
gate_at p h rest image side = ap (λ (l : List ℕ). get_or l 9 0) side.image_is

shut_at : (p : ℕ) (image : List ℕ) → IsClosedSide p image → get_or image 9 0 ≡ p
shut_at p image (gate, rest, shut, is) = ap (λ (l : List ℕ). get_or l 9 0) is

-- where the pair gate is closed: an image that begins with no side, is closed, or has no head does not count
module _ (first second : List ℕ) where
  pub alone_without : (HasStart first → ⊥) → IsNoPair first second
  alone_without never = no_first first second never

  module _ (shut : HasOpenPair first → ⊥) where
    nay : (p side : ℕ) (rest : List ℕ) → first ≡ begun side p ++ rest → p ≢ OPEN
    nay p side rest is e = shut (side, rest, is ∙ ap (λ (n : ℕ). begun side n ++ rest) e)

    pub alone_closed : OpensImage first Closed → IsNoPair first second
    alone_closed (p, (gate, rest, closed, is)) =
        not_alone first second p (nay p gate rest is) (gate, rest, is)
        (λ h r side none. open_shut p p h r first side (gate, rest, closed, is))

    pub alone_headless : OpensImage first Headless → IsNoPair first second
    alone_headless (p, (rest, is, never)) =
        not_alone first second p (nay p OPEN rest is) (OPEN, rest, is)
        (λ h r side none. headless_open p p h r first (rest, is, never) side)

    pub alone_copy : (parsed : ParsedHead) (copied : Copied) → parsed.copied ≡ Some copied
        → OpensImage first (Open parsed) →
        IsNoPair first second
    alone_copy parsed copied says (p, h, rest, side, tells) =
        not_alone first second p (nay p OPEN (spell_side_head h ++ rest) side.image_is)
        (OPEN, spell_side_head h ++ rest, side.image_is)
        (λ k s other none.
        let same : h ≡ k = (one_side p p h k rest s first side other).1.0 in
        let clash : Some copied ≡ None =
        sym says ∙ tells.1 ∙ ap (λ (g : Head). g.copied) same ∙ none in cc)

    pub alone_plain : (parsed : ParsedHead) → parsed.copied ≡ None → OpensImage first (Open parsed) →
        Chooses first second (Some (record { which = First; head = parsed }))
    alone_plain parsed says (p, h, rest, side, tells) =
        (h, rest, (p, side, inl (nay p OPEN (spell_side_head h ++ rest) side.image_is, sym tells.1 ∙ says)), tells)

-- where the pair gate is open
module _ (first second : List ℕ) (paired : HasOpenPair first) where
  paired_at : get_or first 9 0 ≡ OPEN
  paired_at = ap (λ (l : List ℕ). get_or l 9 0) paired.2

  pub pair_without : (HasStart second → ⊥) → IsNoPair first second
  pair_without never = no_second first second paired never

  pub pair_both : HasStart second → get_or second 9 0 ≡ OPEN → IsNoPair first second
  pair_both (side, p, rest, is) e = both_open first second paired
      (side, rest, is ∙ ap (λ (n : ℕ). begun side n ++ rest) (sym (ap (λ (l : List ℕ). get_or l 9 0) is) ∙ e))

  pub pair_first_headless : OpensImage first Headless → IsNoPair first second
  pair_first_headless (p, headless) = first_headless first second paired p headless

  pub pair_second_headless : OpensImage second Headless → IsNoPair first second
  pair_second_headless (q, headless) = second_headless first second paired q headless

  pub pair_closed : OpensImage first Closed → OpensImage second Closed → IsNoPair first second
  pair_closed (p, one) (q, two) = both_closed first second paired p q one two

  module _ (shut : get_or second 9 0 ≢ OPEN) where
    pub first_counts : (parsed : ParsedHead) → OpensImage first (Open parsed) → OpensImage second Closed →
        Chooses first second (Some (record { which = First; head = parsed }))
    first_counts parsed (p, h, rest, side, tells) (q, two) = (
      h,
      rest,
      (
        p,
        side,
        inr (
          sym (gate_at p h rest first side) ∙ paired_at,
          (q, (λ e. shut (shut_at q second two ∙ e)), inl two),
        ),
      ),
      tells,
    )

    pub second_counts : (parsed : ParsedHead) → OpensImage first Closed → OpensImage second (Open parsed) →
        Chooses first second (Some (record { which = Second; head = parsed }))
    second_counts parsed (p, one) (q, h, rest, side, tells) = (
      h,
      rest,
      (
        q,
        (λ e. shut (gate_at q h rest second side ∙ e)),
        side,
        inl (subst (λ (n : ℕ). IsClosedSide n first) (sym (shut_at p first one) ∙ paired_at) one),
      ),
      tells,
    )

    pub greater_counts : (one two : ParsedHead) (found : Option Counted) → OpensImage first (Open one) →
        OpensImage second (Open two) → IsGreater one two found → Chooses first second found
    greater_counts one two (Some chosen) (p, h, r, a, parsed) (q, k, s, b, tells) (inl (is, less)) =
        let p_is : p ≡ OPEN = sym (gate_at p h r first a) ∙ paired_at in
        let lesser : epoch_of k < epoch_of h = omega (arith, less, ap epoch_in parsed.1, ap epoch_in tells.1) in
        subst (λ (x : Counted). Chooses first second (Some x)) (sym is)
        (h, r, (p, a, inr (p_is, (q, (λ e. shut (gate_at q k s second b ∙ e)), inr (k, s, b, lesser)))), parsed)
    greater_counts one two (Some chosen) (p, h, r, a, parsed) (q, k, s, b, tells) (inr (is, less)) =
        let p_is : p ≡ OPEN = sym (gate_at p h r first a) ∙ paired_at in
        let lesser : epoch_of h < epoch_of k = omega (arith, less, ap epoch_in parsed.1, ap epoch_in tells.1) in
        subst (λ (x : Counted). Chooses first second (Some x)) (sym is) (
          k,
          s,
          (
            q,
            (λ e. shut (gate_at q k s second b ∙ e)),
            b,
            inr (h, r, subst (λ (n : ℕ). IsOpenSide n h r first) p_is a, lesser),
          ),
          tells,
        )
    greater_counts one two None (p, h, r, a, parsed) (q, k, s, b, tells) same =
        same_epochs first second paired p q h k r s a b (sym (ap epoch_in parsed.1) ∙ same ∙ ap epoch_in tells.1)
