-- Whatever a stop in a pass leaves, the same side counts; in the last pass that side or the copy.
use Rattle.std.proofs.Common.{◌≡◌, ◌⊎◌, inl, inr, ℕ, List, [], ◌∷◌, ◌++◌, length, take, drop, get_or, sym, ◌∙◌, ap, subst, arith, append_assoc}
use Rattle.std.specs.Prelude.{◌≢◌}
use Rattle.std.specs.List.{flat_map}
use Rattle.std.proofs.lemmas.List.{append-nil}
use Rattle.std.proofs.lemmas.Bool.{cases_eq}
use Rattle.tape_disk.specs.Disk.{IsPrefixOf, Smeared}
use Rattle.gate_journal.specs.Heads.{Head, IsCopied, epoch_of, spell_side_head}
use Rattle.gate_journal.specs.Side.{OPEN, CLOSED, frame}
use Rattle.cartridge_sides.specs.declared.which.Which.{Which}
use Rattle.cartridge_sides.specs.declared.which.Which.TheVariants.{First, Second}
use Rattle.cartridge_sides.specs.Pairs.{begun, IsOfCartridge, IsOpenSide, IsClosedSide, YieldsTo, SideCounts, PairStandsFor}
use Rattle.cartridge_sides.specs.Passes.{IsShutPair, IsPrepared, ReadsOpen, ReadsClosed, HasWritten, IsCopy, SidesStandFor, TakesOver, copy_head, spell_copy, other, first_image, second_image}
use Rattle.cartridge_sides.specs.Inner.Images.{same_pair}

-- ten bytes and the rest, after a write of their first byte that ended in any way
pub first_smeared : (side pair : ℕ) (rest image : List ℕ) → Smeared 0 1 (begun side pair ++ rest) image →
    (gate : ℕ) × (tail : List ℕ) × (image ≡ begun gate pair ++ (rest ++ tail))
first_smeared side pair rest [] s = absurd (omega (arith, s.no_shorter))
first_smeared side pair rest (gate ∷ more) s = (gate, s.after.0, ap (λ (l : List ℕ). gate ∷ l) s.after.1)

last_with : (side pair : ℕ) (rest image more : List ℕ) → image ≡ take 9 (begun side pair ++ rest) ++ more →
    Smeared 9 1 (begun side pair ++ rest) image →
    (gate : ℕ) × (tail : List ℕ) × (image ≡ begun side gate ++ (rest ++ tail))
last_with side pair rest image [] e s = absurd (omega (arith, s.no_shorter, ap length e))
last_with side pair rest image (gate ∷ more) e s = (
  gate,
  s.after.0,
  e ∙ ap (λ (l : List ℕ). begun side gate ++ l) (ap (λ (l : List ℕ). drop 10 l) (sym e) ∙ s.after.1),
)

-- the same for the last of them
pub last_smeared : (side pair : ℕ) (rest image : List ℕ) → Smeared 9 1 (begun side pair ++ rest) image →
    (gate : ℕ) × (tail : List ℕ) × (image ≡ begun side gate ++ (rest ++ tail))
last_smeared side pair rest image s = last_with side pair rest image s.before.0 s.before.1 s

-- a head and its rest stay, whatever follows
more_behind : (pair : ℕ) (h : Head) (rest tail image : List ℕ) → IsOfCartridge h →
    image ≡ begun OPEN pair ++ ((spell_side_head h ++ rest) ++ tail) → IsOpenSide pair h (rest ++ tail) image
more_behind pair h rest tail image ok is = record {
  head_is = ok;
  image_is = is ∙ ap (λ (l : List ℕ). begun OPEN pair ++ l) (append_assoc (spell_side_head h) rest tail);
}

-- the gate of an open side with a lesser epoch, while it is closed
closing : (epoch pair : ℕ) (old image : List ℕ) → ReadsOpen old → YieldsTo epoch pair old → Smeared 0 1 old image →
    YieldsTo epoch pair image
closing epoch pair old image opened (inl (gate, rest, shut, is)) left =
    absurd (shut (ap (λ (l : List ℕ). get_or l 0 0) (sym is ∙ opened.1)))
closing epoch pair old image opened (inr (h, rest, side, less)) left =
    let w = first_smeared OPEN pair (spell_side_head h ++ rest) image
    (subst (λ (l : List ℕ). Smeared 0 1 l image) side.image_is left) in
    elim (cases_eq w.0 OPEN) [
      | inl e ↦ inr (
        h,
        rest ++ w.1,
        more_behind pair h rest w.1 image side.head_is
            (w.2 ∙ ap (λ (g : ℕ). begun g pair ++ ((spell_side_head h ++ rest) ++ w.1)) e),
        less,
      )
      | inr shut ↦ inl (w.0, (spell_side_head h ++ rest) ++ w.1, shut, w.2)
    ]

-- a closed side that yields still yields where its ten bytes stay
yields_begun : (epoch p : ℕ) (old image : List ℕ) → YieldsTo epoch p old → ReadsClosed old →
    IsPrefixOf (take 10 old) image → YieldsTo epoch p image
yields_begun epoch p old image yields (q, (gate, rest, shut, is)) (more, begins) =
    inl (
      gate,
      more,
      shut,
      begins ∙ ap (λ (l : List ℕ). take 10 l ++ more) is
          ∙ ap (λ (x : ℕ). begun gate x ++ more) (pair_is yields),
    )
  where
    pair_is : YieldsTo epoch p old → q ≡ p
    pair_is (inl (side, tail, nay, was)) = same_pair gate side q p rest tail (sym is ∙ was)
    pair_is (inr (h, tail, side, less)) =
        same_pair gate OPEN q p rest (spell_side_head h ++ tail) (sym is ∙ side.image_is)

-- another image of the side that does not count
with_spare : (which : Which) (h : Head) (rest counts spare image : List ℕ) →
    ((epoch pair : ℕ) → YieldsTo epoch pair spare → YieldsTo epoch pair image) →
    SideCounts which h rest (first_image which counts spare) (second_image which counts spare) →
    SideCounts which h rest (first_image which counts image) (second_image which counts image)
with_spare First h rest counts spare image yields (pair, side, inl alone) = (pair, side, inl alone)
with_spare First h rest counts spare image yields (pair, side, inr (is, (o, shut, y))) =
    (pair, side, inr (is, (o, shut, yields (epoch_of h) o y)))
with_spare Second h rest counts spare image yields (pair, shut, side, y) =
    (pair, shut, side, yields (epoch_of h) OPEN y)

stands_beside : (which : Which) (h : Head) (bodies : List (List ℕ)) (counts spare image : List ℕ) →
    ((epoch pair : ℕ) → YieldsTo epoch pair spare → YieldsTo epoch pair image) →
    SidesStandFor which h bodies counts spare → SidesStandFor which h bodies counts image
stands_beside which h bodies counts spare image yields (frames, (gate, more, shut, is)) =
    (frames, (gate, more, shut, with_spare which h (flat_map frame bodies ++ gate ∷ more) counts spare image yields is))

-- while the spare's gate is closed, the pair stands for the same
pub closing_keeps : (which : Which) (h : Head) (bodies : List (List ℕ)) (counts spare image : List ℕ) →
    SidesStandFor which h bodies counts spare → ReadsOpen spare → Smeared 0 1 spare image →
    SidesStandFor which h bodies counts image
closing_keeps which h bodies counts spare image stands opened left =
    stands_beside which h bodies counts spare image
    (λ epoch pair y. closing epoch pair spare image opened y left) stands

-- while a copy is written after the ten bytes of a closed spare, the pair stands for the same
pub writing_keeps : (which : Which) (h : Head) (bodies : List (List ℕ)) (counts spare image : List ℕ) →
    SidesStandFor which h bodies counts spare → ReadsClosed spare → IsPrefixOf (take 10 spare) image →
    SidesStandFor which h bodies counts image
writing_keeps which h bodies counts spare image stands closed left =
    stands_beside which h bodies counts spare image (λ epoch pair y. yields_begun epoch pair spare image y closed left)
    stands

-- the first side is read alone, so the second image does not count
alone_keeps : (which : Which) (h : Head) (rest first second image : List ℕ) → IsShutPair first →
    SideCounts which h rest first second → SideCounts which h rest first image
alone_keeps First h rest first second image shut (pair, side, inl alone) = (pair, side, inl alone)
alone_keeps First h rest first second image shut (pair, side, inr (is, beside)) =
    absurd (shut.3 (same_pair shut.0 OPEN shut.1 pair shut.2 (spell_side_head h ++ rest)
    (sym shut.4 ∙ side.image_is) ∙ is))
alone_keeps Second h rest first second image shut (pair, closed, side, inl (gate, more, nay, is)) =
    absurd (shut.3 (same_pair shut.0 gate shut.1 OPEN shut.2 more (sym shut.4 ∙ is)))
alone_keeps Second h rest first second image shut (pair, closed, side, inr (k, more, yielding, less)) =
    absurd (shut.3 (same_pair shut.0 OPEN shut.1 OPEN shut.2 (spell_side_head k ++ more)
    (sym shut.4 ∙ yielding.image_is)))

-- where the pair gate is closed, the pair stands for the same beside any second image
pub preparing_keeps : (which : Which) (h : Head) (bodies : List (List ℕ)) (first second image : List ℕ) →
    PairStandsFor which h bodies first second → IsShutPair first → PairStandsFor which h bodies first image
preparing_keeps which h bodies first second image (frames, (gate, more, nay, counts)) shut = (
  frames,
  (
    gate,
    more,
    nay,
    alone_keeps which h (flat_map frame bodies ++ gate ∷ more) first second image shut counts,
  ),
)

-- the first side counts with any pair gate, where the second is prepared
pairing : (which : Which) (h : Head) (rest first second image : List ℕ) → IsShutPair first → IsPrepared second →
    Smeared 9 1 first image → SideCounts which h rest first second →
    (tail : List ℕ) × SideCounts which h (rest ++ tail) image second
pairing First h rest first second image shut prepared left (pair, side, inl (closed, alone)) =
    let w = last_smeared OPEN pair (spell_side_head h ++ rest) image
    (subst (λ (l : List ℕ). Smeared 9 1 l image) side.image_is left) in (
      w.1,
      (
        w.0,
        more_behind w.0 h rest w.1 image side.head_is w.2,
        elim (cases_eq w.0 OPEN) [
          | inl e ↦ inr (e, (prepared.0, prepared.1, inl prepared.2))
          | inr nay ↦ inl (nay, alone)
        ],
      ),
    )
pairing First h rest first second image shut prepared left (pair, side, inr (is, beside)) =
    absurd (shut.3 (same_pair shut.0 OPEN shut.1 pair shut.2 (spell_side_head h ++ rest)
    (sym shut.4 ∙ side.image_is) ∙ is))
pairing Second h rest first second image shut prepared left (pair, closed, side, inl (gate, more, nay, is)) =
    absurd (shut.3 (same_pair shut.0 gate shut.1 OPEN shut.2 more (sym shut.4 ∙ is)))
pairing Second h rest first second image shut prepared left (pair, closed, side, inr (k, more, yielding, less)) =
    absurd (shut.3 (same_pair shut.0 OPEN shut.1 OPEN shut.2 (spell_side_head k ++ more)
    (sym shut.4 ∙ yielding.image_is)))

-- while the pair gate is opened beside a prepared second side, the pair stands for the same
pub pairing_keeps : (which : Which) (h : Head) (bodies : List (List ℕ)) (first second image : List ℕ) →
    PairStandsFor which h bodies first second → IsShutPair first → IsPrepared second → Smeared 9 1 first image →
    PairStandsFor which h bodies image second
pairing_keeps which h bodies first second image (frames, (gate, more, nay, counts)) shut prepared left =
    let w = pairing which h (flat_map frame bodies ++ gate ∷ more) first second image shut prepared left counts in (
      frames,
      (
        gate,
        more ++ w.0,
        nay,
        subst (λ (l : List ℕ). SideCounts which h l image second) (append_assoc (flat_map frame bodies)
            (gate ∷ more) w.0)
            w.1,
      ),
    )

-- the head of a copy can be spelled
copy_ok : (h : Head) (copies : List (List ℕ)) → IsOfCartridge h → IsCopy h copies → IsOfCartridge (copy_head h copies)
copy_ok h copies ok copy = record {
  kind = ok.kind;
  spelled = record {
    heading = ok.spelled.heading;
    copied = subst (λ k. IsCopied k (copy_head h copies).copied) (sym ok.kind) (copy.epoch, copy.few);
  };
}

module _ (h : Head) (copies : List (List ℕ)) (ok : IsOfCartridge h) (copy : IsCopy h copies) where
  abbrev k : Head
  k = copy_head h copies

  -- what follows the head of the copy
  abbrev copied : List ℕ → List ℕ
  copied more = flat_map frame copies ++ CLOSED ∷ more

  regrouped : (more : List ℕ) → spell_copy h copies ++ more ≡ spell_side_head k ++ copied more
  regrouped more =
      append_assoc (spell_side_head k) (flat_map frame copies ++ CLOSED ∷ []) more
      ∙ ap (λ (l : List ℕ). spell_side_head k ++ l) (append_assoc (flat_map frame copies) (CLOSED ∷ []) more)

  -- an image of the copy, with any side gate
  image_with : (gate pair : ℕ) (more tail image : List ℕ) →
      image ≡ begun gate pair ++ ((spell_copy h copies ++ more) ++ tail) →
      image ≡ begun gate pair ++ (spell_side_head k ++ copied (more ++ tail))
  image_with gate pair more tail image is =
      is ∙ ap (λ (l : List ℕ). begun gate pair ++ l)
      (append_assoc (spell_copy h copies) more tail ∙ regrouped (more ++ tail))

  -- the copy counts once its gate is open
  copy_counts : (which : Which) (rest counts spare image : List ℕ) (p : ℕ) (tail : List ℕ) →
      SideCounts which h rest (first_image which counts spare) (second_image which counts spare) →
      (IsShutPair (first_image which counts spare) → ⊥) → ((epoch q : ℕ) → YieldsTo epoch q spare → q ≡ p) →
      image ≡ begun OPEN p ++ (spell_side_head k ++ copied tail) →
      SideCounts (other which) k (copied tail) (first_image which counts image) (second_image which counts image)
  copy_counts First rest counts spare image p tail (pair, side, inl (closed, alone)) paired told is =
      absurd (paired (OPEN, pair, spell_side_head h ++ rest, closed, side.image_is))
  copy_counts First rest counts spare image p tail (pair, side, inr (e, (o, shut, y))) paired told is =
      let q : o ≡ p = told (epoch_of h) o y in (
        p,
        subst (λ (x : ℕ). x ≢ OPEN) q shut,
        record { head_is = copy_ok h copies ok copy; image_is = is },
        inr (h, rest, subst (λ (x : ℕ). IsOpenSide x h rest counts) e side, omega arith),
      )
  copy_counts Second rest counts spare image p tail (pair, shut, side, y) paired told is =
      let q : OPEN ≡ p = told (epoch_of h) OPEN y in (
        p,
        record { head_is = copy_ok h copies ok copy; image_is = is },
        inr (sym q, (pair, shut, inr (h, rest, side, omega arith))),
      )

-- the ten bytes at the start of a side have the pair gate with which it yields
pair_parsed : (epoch q g p : ℕ) (xs spare : List ℕ) → spare ≡ begun g p ++ xs → YieldsTo epoch q spare → q ≡ p
pair_parsed epoch q g p xs spare is (inl (gate, rest, shut, was)) = same_pair gate g q p rest xs (sym was ∙ is)
pair_parsed epoch q g p xs spare is (inr (k, rest, side, less)) =
    same_pair OPEN g q p (spell_side_head k ++ rest) xs (sym side.image_is ∙ is)

head_of_side : (which : Which) (h : Head) (rest first second : List ℕ) → SideCounts which h rest first second →
    IsOfCartridge h
head_of_side First h rest first second (pair, side, beside) = side.head_is
head_of_side Second h rest first second (pair, shut, side, y) = side.head_is

module _ (which : Which) (h : Head) (bodies copies : List (List ℕ)) (counts spare : List ℕ)
    (stands : SidesStandFor which h bodies counts spare) (paired : IsShutPair (first_image which counts spare) → ⊥)
    (copy : IsCopy h copies) (written : HasWritten (spell_copy h copies) spare) where
  counts_open : (image tail : List ℕ) → image ≡ begun OPEN written.1 ++ ((spell_copy h copies ++ written.2) ++ tail) →
      TakesOver which h copies counts image
  counts_open image tail is =
      let rest = flat_map frame bodies ++ stands.1.0 ∷ stands.1.1 in
      let ok = head_of_side which h rest (first_image which counts spare)
      (second_image which counts spare) stands.1.3 in (
        record { each = copy.each; base = omega arith },
        (
          CLOSED,
          written.2 ++ tail,
          (λ (e : CLOSED ≡ OPEN). absurd (omega (arith, e))),
          copy_counts h copies ok copy which rest counts spare image written.1 (written.2 ++ tail) stands.1.3 paired
              (λ epoch q y. pair_parsed epoch q written.0 written.1 (spell_copy h copies ++ written.2) spare written.4
              y)
              (image_with h copies ok copy OPEN written.1 written.2 tail image is),
        ),
      )

  -- after it
  pub opened_counts : TakesOver which h copies counts (OPEN ∷ drop 1 spare)
  opened_counts = counts_open (OPEN ∷ drop 1 spare) []
      (ap (λ (l : List ℕ). OPEN ∷ drop 1 l) written.4
      ∙ ap (λ (l : List ℕ). begun OPEN written.1 ++ l) (sym (append-nil (spell_copy h copies ++ written.2))))

  -- at any moment of it
  pub opening_keeps : (image : List ℕ) → Smeared 0 1 spare image →
      SidesStandFor which h bodies counts image ⊎ TakesOver which h copies counts image
  opening_keeps image left =
      let w = first_smeared written.0 written.1 (spell_copy h copies ++ written.2) image
      (subst (λ (l : List ℕ). Smeared 0 1 l image) written.4 left) in
      elim (cases_eq w.0 OPEN) [
        | inl e ↦ inr (counts_open image w.1
            (w.2 ∙ ap (λ (g : ℕ). begun g written.1 ++ ((spell_copy h copies ++ written.2) ++ w.1)) e))
        | inr nay ↦ inl (stands_beside which h bodies counts spare image
            (λ epoch q y. inl (subst (λ (x : ℕ). IsClosedSide x image)
            (sym (pair_parsed epoch q written.0 written.1 (spell_copy h copies ++ written.2) spare written.4 y))
            (w.0, (spell_copy h copies ++ written.2) ++ w.1, nay, w.2))) stands)
      ]
