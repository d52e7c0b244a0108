-- Of each pair at most one side counts, and either one does or the pair is not ours.
use Rattle.std.proofs.Common.{◌≡◌, ◌≢◌, ◌⊎◌, inl, inr, ⊎_elim, ℕ, List, ◌++◌, refl, sym, ◌∙◌, ap, subst, arith}
use Rattle.std.specs.Prelude.{Option, None, Some}
use Rattle.std.proofs.lemmas.Bool.{cases_eq, cases_lt}
use Rattle.gate_journal.specs.Side.{OPEN}
use Rattle.gate_journal.specs.Inner.Deciding.{same}
use Rattle.cartridge_sides.specs.declared.which.Which.{Which}
use Rattle.cartridge_sides.specs.declared.which.Which.TheVariants.{First, Second}
use Rattle.gate_journal.specs.Heads.{Head, epoch_of, spell_side_head}
use Rattle.cartridge_sides.specs.Pairs.{begun, IsOpenSide, IsClosedSide, YieldsTo, SideCounts, IsNoPair}
use Rattle.cartridge_sides.specs.Passes.{HasStart}
use Rattle.cartridge_sides.specs.Inner.{IsOpenWith, IsHeadless}
use Rattle.cartridge_sides.specs.Inner.Images.{View, headless_open, headless_yields, lesser, one_side, open_shut, same_pair, viewed, yields_start}

-- the same side, with the same head and the same bytes behind it (own)
abbrev pub Same : Which → Head → List ℕ → Which → Head → List ℕ → Type 0
Same w h r v k s = (w ≡ v) × ((h ≡ k) × (r ≡ s))

not_both : (h k : Head) (r s first second : List ℕ) → SideCounts First h r first second →
    SideCounts Second k s first second → ⊥
not_both h k r s first second (p, a, inl (shut, alone)) (q, closed, b, y) =
    let w = yields_start (epoch_of k) OPEN first y in
    shut (same_pair OPEN w.0 p OPEN (spell_side_head h ++ r) w.1 (sym a.image_is ∙ w.2))
not_both h k r s first second (p, a, inr (is, (o, shut, y))) (q, closed, b, z) =
    let one = lesser (epoch_of k) p OPEN h r first a z in
    let two = lesser (epoch_of h) q o k s second b y in
    absurd (omega (arith, one, two))

-- at most one side counts
pub one_counts : (w v : Which) (h k : Head) (r s first second : List ℕ) →
    SideCounts w h r first second → SideCounts v k s first second → Same w h r v k s
one_counts First First h k r s first second (p, a, x) (q, b, y) = (refl, (one_side p q h k r s first a b).1)
one_counts Second Second h k r s first second (p, m, a, x) (q, n, b, y) = (refl, (one_side p q h k r s second a b).1)
one_counts First Second h k r s first second a b = absurd (not_both h k r s first second a b)
one_counts Second First h k r s first second a b = absurd (not_both k h s r first second b a)

-- which pairs are not ours, and why
module _ (first second : List ℕ) where
  abbrev pub HasPair : ℕ → List ℕ → Type 0
  HasPair pair image = (side : ℕ) × (rest : List ℕ) × (image ≡ begun side pair ++ rest)

  pub no_first : (HasStart first → ⊥) → IsNoPair first second
  no_first never First h r (p, a, x) = never (OPEN, p, spell_side_head h ++ r, a.image_is)
  no_first never Second h r (p, m, a, y) =
      let w = yields_start (epoch_of h) OPEN first y in never (w.0, OPEN, w.1, w.2)

  -- the first image is read alone, and has no head, or is closed, or is a copy
  pub not_alone : (p : ℕ) → p ≢ OPEN → HasPair p first →
      ((h : Head) (r : List ℕ) → IsOpenSide p h r first → h.copied ≡ None → ⊥) → IsNoPair first second
  not_alone p shut (side, rest, is) never First h r (q, a, x) =
      let e : q ≡ p = same_pair OPEN side q p (spell_side_head h ++ r) rest (sym a.image_is ∙ is) in
      ⊎_elim (λ (alone : (q ≢ OPEN) × (h.copied ≡ None)). never h r (subst (λ
      (n : ℕ). IsOpenSide n h r first) e a) alone.1)
      (λ (beside : (q ≡ OPEN) × ((o : ℕ) × (o ≢ OPEN) × YieldsTo (epoch_of h) o second)). shut (sym e ∙ beside.0)) x
  not_alone p shut (side, rest, is) never Second h r (q, m, a, y) =
      let w = yields_start (epoch_of h) OPEN first y in
      shut (sym (same_pair w.0 side OPEN p w.1 rest (sym w.2 ∙ is)))

  -- a pair whose gate is open
  module _ (paired : HasPair OPEN first) where
    beside : (h : Head) (r : List ℕ) → SideCounts First h r first second →
        IsOpenSide OPEN h r first × ((o : ℕ) × (o ≢ OPEN) × YieldsTo (epoch_of h) o second)
    beside h r (p, a, inl (shut, alone)) =
        absurd (shut (same_pair OPEN paired.0 p OPEN (spell_side_head h ++ r) paired.1 (sym a.image_is ∙ paired.2)))
    beside h r (p, a, inr (e, y)) = (subst (λ (n : ℕ). IsOpenSide n h r first) e a, y)

    pub no_second : (HasStart second → ⊥) → IsNoPair first second
    no_second never First h r c =
        let b = beside h r c in
        let w = yields_start (epoch_of h) b.1.0 second b.1.2 in never (w.0, b.1.0, w.1, w.2)
    no_second never Second h r (p, m, a, y) = never (OPEN, p, spell_side_head h ++ r, a.image_is)

    pub both_open : HasPair OPEN second → IsNoPair first second
    both_open (side, rest, is) First h r c =
        let b = beside h r c in
        let w = yields_start (epoch_of h) b.1.0 second b.1.2 in
        b.1.1 (same_pair w.0 side b.1.0 OPEN w.1 rest (sym w.2 ∙ is))
    both_open (side, rest, is) Second h r (p, m, a, y) =
        m (same_pair OPEN side p OPEN (spell_side_head h ++ r) rest (sym a.image_is ∙ is))

    pub both_closed : (p q : ℕ) → IsClosedSide p first → IsClosedSide q second → IsNoPair first second
    both_closed p q one two First h r c = open_shut OPEN p h r first (beside h r c).0 one
    both_closed p q one two Second h r (o, m, a, y) = open_shut o q h r second a two

    pub first_headless : (p : ℕ) → IsHeadless p first → IsNoPair first second
    first_headless p headless First h r c = headless_open p OPEN h r first headless (beside h r c).0
    first_headless p headless Second h r (o, m, a, y) = headless_yields p (epoch_of h) OPEN first headless y

    pub second_headless : (q : ℕ) → IsHeadless q second → IsNoPair first second
    second_headless q headless First h r c =
        let b = beside h r c in headless_yields q (epoch_of h) b.1.0 second headless b.1.2
    second_headless q headless Second h r (o, m, a, y) = headless_open q o h r second headless a

    pub same_epochs : (p q : ℕ) (h k : Head) (r s : List ℕ) → IsOpenSide p h r first → IsOpenSide q k s second →
        epoch_of h ≡ epoch_of k → IsNoPair first second
    same_epochs p q h k r s a b e First g t c =
        let w = beside g t c in
        let one = one_side p OPEN h g r t first a w.0 in
        let less = lesser (epoch_of g) q w.1.0 k s second b w.1.2 in
        absurd (omega (arith, less, e, ap epoch_of one.1.0))
    same_epochs p q h k r s a b e Second g t (o, m, d, y) =
        let one = one_side q o k g s t second b d in
        let less = lesser (epoch_of g) p OPEN h r first a y in
        absurd (omega (arith, less, e, ap epoch_of one.1.0))

-- some side counts (own)
abbrev pub SomeCounts : List ℕ → List ℕ → Type 0
SomeCounts first second = (w : Which) × (h : Head) × (r : List ℕ) × SideCounts w h r first second

alone_decided : (p : ℕ) (first second : List ℕ) → p ≢ OPEN →
    IsClosedSide p first ⊎ (IsOpenWith p first ⊎ IsHeadless p first) → SomeCounts first second ⊎ IsNoPair first second
alone_decided p first second shut (inl closed) =
    inr (not_alone first second p shut (closed.0, closed.1, closed.3) (λ h r a none. open_shut p p h r first a closed))
alone_decided p first second shut (inr (inr headless)) =
    inr (not_alone first second p shut (
      OPEN,
      headless.0,
      headless.1,
    ) (λ h r a none. headless_open p p h r first headless a))
alone_decided p first second shut (inr (inl (h, r, side))) = go h.copied refl
  where
    go : (c : Option _) → h.copied ≡ c → SomeCounts first second ⊎ IsNoPair first second
    go None e = inl (First, h, r, (p, side, inl (shut, e)))
    go (Some c) e = inr (not_alone first second p shut (OPEN, spell_side_head h ++ r, side.image_is)
        (λ k s b none. let same : h ≡ k = (one_side p p h k r s first side b).1.0 in
        let clash : Some c ≡ None = sym e ∙ ap (λ (g : Head). g.copied) same ∙ none in cc))

pair_decided : (p q : ℕ) (first second : List ℕ) → p ≡ OPEN → q ≢ OPEN →
    IsClosedSide p first ⊎ (IsOpenWith p first ⊎ IsHeadless p first) →
    IsClosedSide q second ⊎ (IsOpenWith q second ⊎ IsHeadless q second) →
    SomeCounts first second ⊎ IsNoPair first second
pair_decided p q first second e shut (inl one) (inl two) =
    inr (both_closed first second (one.0, one.1, one.3 ∙ ap (λ (n : ℕ). begun one.0 n ++ one.1) e) p q one two)
pair_decided p q first second e shut (inl one) (inr (inl (k, s, b))) =
    inl (Second, k, s, (q, shut, b, inl (subst (λ (n : ℕ). IsClosedSide n first) e one)))
pair_decided p q first second e shut (inl one) (inr (inr two)) =
    inr (second_headless first second (one.0, one.1, one.3 ∙ ap (λ (n : ℕ). begun one.0 n ++ one.1) e) q two)
pair_decided p q first second e shut (inr (inl (h, r, a))) (inl two) = inl (
  First,
  h,
  r,
  (
    p,
    a,
    inr (
      e,
      (
        q,
        shut,
        inl two,
      ),
    ),
  ),
)
pair_decided p q first second e shut (inr (inl (h, r, a))) (inr (inl (k, s, b))) =
    elim (cases_eq (epoch_of h) (epoch_of k)) [
      | inl same ↦ inr (same_epochs first second (
        OPEN,
        spell_side_head h ++ r,
        a.image_is ∙ ap (λ (n : ℕ). begun OPEN n ++
            (spell_side_head h ++ r)) e,
      ) p q h k r s a b same)
      | inr other ↦ elim (cases_lt (epoch_of k) (epoch_of h)) [
        | inl less ↦ inl (First, h, r, (p, a, inr (e, (q, shut, inr (k, s, b, less)))))
        | inr more ↦ inl (
          Second,
          k,
          s,
          (
            q,
            shut,
            b,
            inr (
              h,
              r,
              subst (λ (n : ℕ). IsOpenSide n h r first) e a,
              (let o : epoch_of h ≡ epoch_of k → ⊥ = other in omega (arith, more, o)),
            ),
          ),
        )
      ]
    ]
pair_decided p q first second e shut (inr (inl (h, r, a))) (inr (inr two)) =
    inr (second_headless first second
    (OPEN, spell_side_head h ++ r, a.image_is ∙ ap (λ (n : ℕ). begun OPEN n ++ (spell_side_head h ++ r)) e) q two)
pair_decided p q first second e shut (inr (inr one)) two =
    inr (first_headless first second (OPEN, one.0, one.1 ∙ ap (λ (n : ℕ). begun OPEN n ++ one.0) e) p one)

start_of : (p : ℕ) (image : List ℕ) → IsClosedSide p image ⊎ (IsOpenWith p image ⊎ IsHeadless p image) →
    HasPair image image p image
start_of p image (inl closed) = (closed.0, closed.1, closed.3)
start_of p image (inr (inl (h, r, a))) = (OPEN, spell_side_head h ++ r, a.image_is)
start_of p image (inr (inr headless)) = (OPEN, headless.0, headless.1)

pub counts_decided : (first second : List ℕ) → SomeCounts first second ⊎ IsNoPair first second
counts_decided first second = by (viewed first) (viewed second)
  where
    by : View first → View second → SomeCounts first second ⊎ IsNoPair first second
    by (inl never) other = inr (no_first first second never)
    by (inr (p, one)) other = elim (cases_eq p OPEN) [
      | inr shut ↦ alone_decided p first second shut one
      | inl e ↦ beside_it p one e other
    ]
      where
        beside_it : (p : ℕ) → IsClosedSide p first ⊎ (IsOpenWith p first ⊎ IsHeadless p first) → p ≡ OPEN →
            View second →
            SomeCounts first second ⊎ IsNoPair first second
        beside_it p one e (inl never) =
            inr (no_second first second (subst (λ (n : ℕ). HasPair first first n first) e (start_of p first one)) never)
        beside_it p one e (inr (q, two)) = elim (cases_eq q OPEN) [
          | inl f ↦ inr (both_open first second (subst (λ (n : ℕ). HasPair first first n first) e
              (start_of p first one))
              (subst (λ (n : ℕ). HasPair second second n second) f (start_of q second two)))
          | inr shut ↦ pair_decided p q first second e shut one two
        ]
