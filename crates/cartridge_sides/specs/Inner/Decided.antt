-- Each pair stands for one head and frames, is not ours, or is damaged at one place.
use Rattle.std.proofs.Common.{◌≡◌, ◌≢◌, ◌⊎◌, inl, inr, ℕ, List, [], ◌∷◌, ◌++◌, length, drop, refl, sym, ◌∙◌, ap, subst, arith}
use Rattle.std.specs.List.{All, flat_map}
use Rattle.std.proofs.lemmas.Bool.{cases_eq, cases_lt}
use Rattle.gate_journal.specs.Side.{OPEN, IsBody, frame, IsBroken}
use Rattle.gate_journal.specs.Inner.Deciding.{same}
use Rattle.gate_journal.specs.Inner.Frames.{NoMoreFrames, Read, read, one_end}
use Rattle.cartridge_sides.specs.declared.which.Which.{Which}
use Rattle.gate_journal.specs.Heads.{Head, base_of}
use Rattle.cartridge_sides.specs.Pairs.{gate_behind, SideCounts, AreFrames, PairStandsFor, LacksFrames, IsPairDamagedAt, IsDecidedPair}
use Rattle.cartridge_sides.specs.Inner.Counting.{counts_decided, one_counts}

-- the frames of the side that counts
framed : (w : Which) (h : Head) (r first second : List ℕ) → SideCounts w h r first second → Read r →
    IsDecidedPair first second
framed w h r first second counts (bodies, [], each, is, (never, inl none)) =
    inr (inr (
      gate_behind h bodies,
      (
        w,
        h,
        bodies,
        [],
        each,
        subst (λ (l : List ℕ). SideCounts w h l first second) is counts,
        refl,
        inl (inl (none, refl)),
      ),
    ))
framed w h r first second counts (bodies, [], each, is, (never, inr some)) =
    let e : [] ≡ some.0 ∷ some.1 = some.2 in absurd (cc)
framed w h r first second counts (bodies, gate ∷ rest, each, is, (never, some)) =
    let here = subst (λ (l : List ℕ). SideCounts w h l first second) is counts in
    elim (cases_eq gate OPEN) [
      | inl e ↦ inr (inr (
        gate_behind h bodies,
        (
          w,
          h,
          bodies,
          gate ∷ rest,
          each,
          here,
          refl,
          inl (inr (
            (
              rest,
              ap (λ (n : ℕ). n ∷ rest) e,
            ),
            never,
          )),
        ),
      ))
      | inr shut ↦ elim (cases_lt (length bodies) (base_of h)) [
        | inl few ↦ inr (inr (
          gate_behind h bodies,
          (
            w,
            h,
            bodies,
            gate ∷ rest,
            each,
            here,
            refl,
            inr (
              few,
              (
                gate,
                rest,
                shut,
                refl,
              ),
            ),
          ),
        ))
        | inr enough ↦ inl (w, h, bodies, (record { each = each; base = enough }, (gate, rest, shut, here)))
      ]
    ]

pub decided : (first second : List ℕ) → IsDecidedPair first second
decided first second = elim (counts_decided first second) [
  | inl (w, h, r, counts) ↦ framed w h r first second counts (read r)
  | inr never ↦ inr (inl never)
]

-- the reading of a pair: its frames, and a rest with which no further frame begins (own)
pub record Reads (w : Which) (h : Head) (bodies : List (List ℕ)) (rest first second : List ℕ) : Type 0 where
  pub each : All IsBody bodies
  pub counts : SideCounts w h (flat_map frame bodies ++ rest) first second
  pub ends : NoMoreFrames bodies rest

pub one_reading : (w v : Which) (h k : Head) (bs cs : List (List ℕ)) (r s first second : List ℕ) →
    Reads w h bs r first second → Reads v k cs s first second → (w ≡ v) × ((h ≡ k) × ((bs ≡ cs) × (r ≡ s)))
one_reading w v h k bs cs r s first second a b =
    let one = one_counts w v h k (flat_map frame bs ++ r) (flat_map frame cs ++ s) first second a.counts b.counts in
    let frames = one_end bs cs r s a.each b.each one.1.1 a.ends b.ends in
    (one.0, (one.1.0, (frames.0, frames.1)))

first_is : (x : ℕ) (xs ys : List ℕ) → x ∷ xs ≡ OPEN ∷ ys → x ≡ OPEN
first_is x xs ys e = cc

ends_at : (bodies : List (List ℕ)) (gate : ℕ) (more : List ℕ) → gate ≢ OPEN → NoMoreFrames bodies (gate ∷ more)
ends_at bodies gate more shut =
    (λ w. shut (first_is gate more (drop 1 (frame w.0 ++ w.1 ∷ w.2)) w.4), inr (gate, more, refl))

broken_ends : (bodies : List (List ℕ)) (rest : List ℕ) → IsBroken bodies rest → NoMoreFrames bodies rest
broken_ends bodies rest (inl (none, is)) =
    (λ w. let e : [] ≡ OPEN ∷ drop 1 (frame w.0 ++ w.1 ∷ w.2) = sym is ∙ w.4 in cc, inl none)
broken_ends bodies rest (inr ((tail, is), never)) = (never, inr (OPEN, tail, is))

bad_ends : (h : Head) (bodies : List (List ℕ)) (rest : List ℕ) → IsBroken bodies rest ⊎ LacksFrames h bodies rest →
    NoMoreFrames bodies rest
bad_ends h bodies rest (inl broken) = broken_ends bodies rest broken
bad_ends h bodies rest (inr (few, (gate, more, shut, is))) =
    subst (λ (l : List ℕ). NoMoreFrames bodies l) (sym is) (ends_at bodies gate more shut)

pub stands : (w : Which) (h : Head) (bodies : List (List ℕ)) (first second : List ℕ)
    (s : PairStandsFor w h bodies first second) → Reads w h bodies (s.1.0 ∷ s.1.1) first second
stands w h bodies first second s =
    record { each = s.0.each; counts = s.1.3; ends = ends_at bodies s.1.0 s.1.1 s.1.2 }

pub damaged : (first second : List ℕ) (at : ℕ) (d : IsPairDamagedAt first second at) →
    Reads d.0 d.1 d.2 d.3 first second
damaged first second at d = record { each = d.4; counts = d.5; ends = bad_ends d.1 d.2 d.3 d.7 }

pub one_thing : (first second : List ℕ) (w v : Which) (h k : Head) (bs cs : List (List ℕ)) →
    PairStandsFor w h bs first second → PairStandsFor v k cs first second → (w ≡ v) × ((h ≡ k) × (bs ≡ cs))
one_thing first second w v h k bs cs a b =
    let one = one_reading w v h k bs cs (a.1.0 ∷ a.1.1) (b.1.0 ∷ b.1.1) first second
    (stands w h bs first second a) (stands v k cs first second b) in
    (one.0, (one.1.0, one.1.1.0))

pub one_place : (first second : List ℕ) (a b : ℕ) → IsPairDamagedAt first second a →
    IsPairDamagedAt first second b → a ≡ b
one_place first second a b d e =
    let one = one_reading d.0 e.0 d.1 e.1 d.2 e.2 d.3 e.3 first second (damaged first second a d)
    (damaged first second b e) in
    d.6 ∙ (λ i. gate_behind (one.1.0 i) (one.1.1.0 i)) ∙ sym e.6

not_bad : (h k : Head) (bs cs : List (List ℕ)) (gate : ℕ) (more rest : List ℕ) → gate ≢ OPEN → AreFrames h bs → h ≡ k →
    bs ≡ cs → gate ∷ more ≡ rest → IsBroken cs rest ⊎ LacksFrames k cs rest → ⊥
not_bad h k bs cs gate more rest shut ok same frames is (inl (inl (none, empty))) =
    let e : gate ∷ more ≡ [] = is ∙ empty in cc
not_bad h k bs cs gate more rest shut ok same frames is (inl (inr ((tail, open_gate), never))) =
    shut (first_is gate more tail (is ∙ open_gate))
not_bad h k bs cs gate more rest shut ok same frames is (inr (few, closed)) =
    absurd (omega (arith, few, ok.base, ap base_of same, ap length frames))

pub sound : (first second : List ℕ) (w : Which) (h : Head) (bs : List (List ℕ)) (at : ℕ) →
    PairStandsFor w h bs first second → IsPairDamagedAt first second at → ⊥
sound first second w h bs at s d =
    let one = one_reading w d.0 h d.1 bs d.2 (s.1.0 ∷ s.1.1) d.3 first second (stands w h bs first second s)
    (damaged first second at d) in
    not_bad h d.1 bs d.2 s.1.0 s.1.1 d.3 s.1.2 s.0 one.1.0 one.1.1.0 one.1.1.1 d.7
