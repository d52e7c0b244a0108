-- Each image has exactly one decision: a side, not ours, or damaged.
use Rattle.std.proofs.Common.{◌≡◌, ◌≢◌, ◌⊎◌, inl, inr, ℕ, List, [], ◌∷◌, ◌++◌, length, drop, refl, sym, ◌∙◌, ap, subst, append_assoc, arith}
use Rattle.std.specs.List.{All, flat_map}
use Rattle.std.proofs.lemmas.Bool.{cases_eq, cases_lt}
use Rattle.std.proofs.lemmas.List.{append-nil}
use Rattle.gate_journal.specs.Side.{OPEN, Front, Head, IsBody, IsFront, IsSide, LacksFrames, base_of, frame, spell_front, spell, StandsFor, IsNotOurs, IsBroken, IsDamagedAt, IsDecided}
use Rattle.gate_journal.specs.Inner.Frames.{NoMoreFrames, read, one_end}
use Rattle.gate_journal.specs.Inner.Fronts.{begin_decided, same_front}

classified : (image : List ℕ) (f : Front) (bodies : List (List ℕ)) (rest : List ℕ) → IsFront f → All IsBody bodies →
    image ≡ spell f bodies ++ rest → NoMoreFrames bodies rest → IsDecided image
classified image f bodies [] begins holds is (never, inl none) =
    inr (inr (length (spell f bodies), (f, bodies, [], begins, holds, is, refl, inl (inl (none, refl)))))
classified image f bodies [] begins holds is (never, inr w) = let e : [] ≡ w.0 ∷ w.1 = w.2 in absurd (cc)
classified image f bodies (gate ∷ rest) begins holds is ends = elim (cases_eq gate OPEN) [
  | inl e ↦ inr (inr (
    length (spell f bodies),
    (
      f,
      bodies,
      gate ∷ rest,
      begins,
      holds,
      is,
      refl,
      inl (inr ((rest, ap (λ (n : ℕ). n ∷ rest) e), ends.0)),
    ),
  ))
  | inr shut ↦ elim (cases_lt (length bodies) (base_of f.head)) [
    | inl few ↦ inr (inr (
      length (spell f bodies),
      (f, bodies, gate ∷ rest, begins, holds, is, refl, inr (few, (gate, rest, shut, refl))),
    ))
    | inr enough ↦ inl (
      f,
      bodies,
      (record { begins = begins; holds = holds; base = enough }, (gate, rest, shut, is)),
    )
  ]
]

pub decided : (image : List ℕ) → IsDecided image
decided image = elim (begin_decided image) [
  | inl w ↦ let r = read w.1 in classified image w.0 r.0 r.1 w.2 r.2
      (w.3 ∙ ap (λ (l : List ℕ). spell_front w.0 ++ l) r.3
      ∙ sym (append_assoc (spell_front w.0) (flat_map frame r.0) r.1)) r.4
  | inr never ↦ inr (inl (λ f rest ok is. never
      (f, rest, ok, is ∙ ap (λ (l : List ℕ). l ++ rest) (append-nil (spell_front f)))))
]

-- the reading of an image: a front, bodies, and the rest (own)
pub record Reads (image : List ℕ) (f : Front) (bodies : List (List ℕ)) (rest : List ℕ) : Type 0 where
  pub begins : IsFront f
  pub holds : All IsBody bodies
  pub is : image ≡ spell f bodies ++ rest
  pub ends : NoMoreFrames bodies rest

pub one_reading : (image : List ℕ) (f g : Front) (bs cs : List (List ℕ)) (r s : List ℕ) → Reads image f bs r →
    Reads image g cs s → (f ≡ g) × (bs ≡ cs) × (r ≡ s)
one_reading image f g bs cs r s a b =
    let whole : spell_front f ++ (flat_map frame bs ++ r) ≡ spell_front g ++ (flat_map frame cs ++ s) =
    sym (append_assoc (spell_front f) (flat_map frame bs) r) ∙ sym a.is ∙ b.is
    ∙ append_assoc (spell_front g) (flat_map frame cs) s in
    let one = same_front f g (flat_map frame bs ++ r) (flat_map frame cs ++ s) a.begins b.begins whole in
    let frames = one_end bs cs r s a.holds b.holds one.1 a.ends b.ends in
    (one.0, frames.0, frames.1)

first_is : (x : ℕ) (xs ys : List ℕ) → x ∷ xs ≡ OPEN ∷ ys → x ≡ OPEN
first_is x xs ys e = cc

ends_at : (bodies : List (List ℕ)) (gate : ℕ) (more : List ℕ) → gate ≢ OPEN → NoMoreFrames bodies (gate ∷ more)
ends_at bodies gate more shut =
    (λ w. shut (first_is gate more (drop 1 (frame w.0 ++ w.1 ∷ w.2)) w.4), inr (gate, more, refl))

pub stands : (image : List ℕ) (f : Front) (bodies : List (List ℕ)) (s : StandsFor f bodies image) →
    Reads image f bodies (s.1.0 ∷ s.1.1)
stands image f bodies s =
    record { begins = s.0.begins; holds = s.0.holds; is = s.1.3; ends = ends_at bodies s.1.0 s.1.1 s.1.2 }

broken_ends : (bodies : List (List ℕ)) (rest : List ℕ) → IsBroken bodies rest → NoMoreFrames bodies rest
broken_ends bodies rest (inl (none, is)) =
    (λ w. let e : [] ≡ OPEN ∷ drop 1 (frame w.0 ++ w.1 ∷ w.2) = sym is ∙ w.4 in cc, inl none)
broken_ends bodies rest (inr ((tail, is), never)) = (never, inr (OPEN, tail, is))

bad_ends : (h : Head) (bodies : List (List ℕ)) (rest : List ℕ) → IsBroken bodies rest ⊎ LacksFrames h bodies rest →
    NoMoreFrames bodies rest
bad_ends h bodies rest (inl broken) = broken_ends bodies rest broken
bad_ends h bodies rest (inr (few, (gate, more, shut, is))) =
    subst (λ (l : List ℕ). NoMoreFrames bodies l) (sym is) (ends_at bodies gate more shut)

pub damaged : (image : List ℕ) (at : ℕ) (d : IsDamagedAt image at) → Reads image d.0 d.1 d.2
damaged image at d =
    record { begins = d.3; holds = d.4; is = d.5; ends = bad_ends d.0.head d.1 d.2 d.7 }

pub one_side : (image : List ℕ) (f g : Front) (bs cs : List (List ℕ)) → StandsFor f bs image →
    StandsFor g cs image → (f ≡ g) × (bs ≡ cs)
one_side image f g bs cs a b =
    let one = one_reading image f g bs cs (a.1.0 ∷ a.1.1) (b.1.0 ∷ b.1.1) (stands image f bs a)
    (stands image g cs b) in (one.0, one.1)

pub one_place : (image : List ℕ) (a b : ℕ) → IsDamagedAt image a → IsDamagedAt image b → a ≡ b
one_place image a b d e =
    let one = one_reading image d.0 e.0 d.1 e.1 d.2 e.2 (damaged image a d) (damaged image b e) in
    sym d.6 ∙ (λ i. length (spell (one.0 i) (one.1 i))) ∙ e.6

not_bad : (f g : Front) (bs cs : List (List ℕ)) (gate : ℕ) (more rest : List ℕ) → gate ≢ OPEN → IsSide f bs → f ≡ g →
    bs ≡ cs → gate ∷ more ≡ rest → IsBroken cs rest ⊎ LacksFrames g.head cs rest → ⊥
not_bad f g bs cs gate more rest shut ok same frames is (inl (inl (none, empty))) =
    let e : gate ∷ more ≡ [] = is ∙ empty in cc
not_bad f g bs cs gate more rest shut ok same frames is (inl (inr ((tail, open_gate), never))) =
    shut (first_is gate more tail (is ∙ open_gate))
not_bad f g bs cs gate more rest shut ok same frames is (inr (few, closed)) =
    absurd (omega (arith, few, ok.base, ap (λ (h : Front). base_of h.head) same, ap length frames))

pub sound : (image : List ℕ) (f : Front) (bs : List (List ℕ)) (at : ℕ) → StandsFor f bs image →
    IsDamagedAt image at → ⊥
sound image f bs at s d =
    let one = one_reading image f d.0 bs d.1 (s.1.0 ∷ s.1.1) d.2 (stands image f bs s) (damaged image at d) in
    not_bad f d.0 bs d.1 s.1.0 s.1.1 d.2 s.1.2 s.0 one.0 one.1 one.2 d.7

pub never_ours : (image : List ℕ) (f : Front) (bodies : List (List ℕ)) (rest : List ℕ) → Reads image f bodies rest →
    IsNotOurs image → ⊥
never_ours image f bodies rest r never =
    never f (flat_map frame bodies ++ rest) r.begins
    (r.is ∙ append_assoc (spell_front f) (flat_map frame bodies) rest
    ∙ ap (λ (l : List ℕ). l ++ (flat_map frame bodies ++ rest)) (sym (append-nil (spell_front f))))
