-- The side that counts and the spare, whichever disk each is on: facts of one side, and of what must be beside it, as
-- facts of the pair.
use Rattle.std.specs.Prelude.{◌≡◌, ◌≢◌, ◌⊎◌, ℕ, List, ◌∷◌, ◌++◌, length}
use Rattle.std.specs.List.{All, flat_map}
use Rattle.std.proofs.Common.{inl, inr, sym, ◌∙◌, ap, subst, arith, append_assoc, length-append}
use Rattle.std.proofs.lemmas.List.{append-nil}
use Rattle.gate_journal.specs.declared.header.SideKind.{SideKind}
use Rattle.gate_journal.specs.declared.header.SideKind.TheVariants.{Cartridge}
use Rattle.gate_journal.specs.Heads.{Head, epoch_of, spell_side_head}
use Rattle.gate_journal.specs.Side.{OPEN, BeginsAs, Front, IsBody, IsBroken, IsDamagedAt, IsFront, IsNotOf, IsPairGate, LacksFrames, StandsFor, frame, spell, spell_front, start}
use Rattle.gate_journal.specs.Inner.Fronts.{length_start, same_front}
use Rattle.cartridge_sides.specs.declared.which.Which.{Which}
use Rattle.cartridge_sides.specs.declared.which.Which.TheVariants.{First, Second}
use Rattle.cartridge_sides.specs.Pairs.{IsOpenSide, IsPairDamagedAt, SideCounts, StandsBeside, YieldsTo, gate_behind}
use Rattle.cartridge_sides.specs.Passes.{SidesStandFor, first_image, second_image}

-- What the other image must be for this side to count, with this pair gate and this head (own).
abbrev pub MayCountBeside : Which → ℕ → Head → List ℕ → Type 0
MayCountBeside First pair head spare = StandsBeside pair head spare
MayCountBeside Second pair head spare = (pair ≢ OPEN) × YieldsTo (epoch_of head) OPEN spare

-- the front of a side with this head and this pair gate (own)
abbrev pub front_with : Head → ℕ → Front
front_with head pair = record { head = head; pair = pair }

-- an open side counts where it may count beside the other image
pub counts_beside : (which : Which) (pair : ℕ) (head : Head) (rest counts spare : List ℕ) →
    IsOpenSide pair head rest counts → MayCountBeside which pair head spare →
    SideCounts which head rest (first_image which counts spare) (second_image which counts spare)
counts_beside First pair head rest counts spare side beside = (pair, side, beside)
counts_beside Second pair head rest counts spare side beside = (pair, beside.0, side, beside.1)

-- a side that counts is open, and may count beside the other image
pub beside_counts : (which : Which) (head : Head) (rest counts spare : List ℕ) →
    SideCounts which head rest (first_image which counts spare) (second_image which counts spare) →
    (pair : ℕ) × IsOpenSide pair head rest counts × MayCountBeside which pair head spare
beside_counts First head rest counts spare (pair, side, beside) = (pair, side, beside)
beside_counts Second head rest counts spare (pair, shut, side, yields) = (pair, side, (shut, yields))

any_gate : (kind : SideKind) (pair : ℕ) → kind ≡ Cartridge → IsPairGate kind pair
any_gate kind pair e = subst (λ (k : SideKind). IsPairGate k pair) (sym e) tt

-- an open side begins with its front
module _ (pair : ℕ) (head : Head) (rest image : List ℕ) (side : IsOpenSide pair head rest image) where
  -- the front can be spelled
  pub has_front : IsFront (front_with head pair)
  has_front =
      record { head = side.head_is.spelled; pair = any_gate head.heading.kind pair side.head_is.kind }

  -- and the image begins with it
  pub begins_with : image ≡ spell_front (front_with head pair) ++ rest
  begins_with =
      side.image_is ∙ (λ i. start OPEN (sym side.head_is.kind i) pair ++ (spell_side_head head ++ rest))
      ∙ sym (append_assoc (start OPEN head.heading.kind pair) (spell_side_head head) rest)

-- a cartridge's side that begins with a front is open
module _ (front : Front) (rest image : List ℕ) (kind : front.head.heading.kind ≡ Cartridge) (ok : IsFront front)
    (is : image ≡ spell_front front ++ rest) where
  -- it is open
  pub is_open : IsOpenSide front.pair front.head rest image
  is_open = record {
    head_is = record { kind = kind; spelled = ok.head };
    image_is = is ∙ append_assoc (start OPEN front.head.heading.kind front.pair) (spell_side_head front.head) rest
        ∙ (λ i. start OPEN (kind i) front.pair ++ (spell_side_head front.head ++ rest));
  }

  -- it counts where it may count beside the other image
  pub side_counts : (which : Which) (spare : List ℕ) → MayCountBeside which front.pair front.head spare →
      SideCounts which front.head rest (first_image which image spare) (second_image which image spare)
  side_counts which spare beside = counts_beside which front.pair front.head rest image spare is_open beside

-- the beginning of the side that counts
module _ (which : Which) (head : Head) (rest counts spare : List ℕ)
    (it : SideCounts which head rest (first_image which counts spare) (second_image which counts spare)) where
  -- its image begins as a cartridge's side
  pub counts_begins : BeginsAs Cartridge counts
  counts_begins =
      let w = beside_counts which head rest counts spare it in
      let front = front_with head w.0 in (
        front,
        rest,
        has_front w.0 head rest counts w.1,
        w.1.head_is.kind,
        begins_with w.0 head rest counts w.1 ∙ ap (λ (l : List ℕ). l ++ rest) (sym (append-nil (spell_front front))),
      )

  -- a front at its start is its front, and may count beside the spare
  pub counted_front : (front : Front) (more : List ℕ) → IsFront front → counts ≡ spell_front front ++ more →
      ((front.head ≡ head) × (more ≡ rest))
      × ((front.head.heading.kind ≡ Cartridge) × MayCountBeside which front.pair front.head spare)
  counted_front front more ok is =
      let w = beside_counts which head rest counts spare it in
      let one = same_front front (front_with head w.0) more rest ok (has_front w.0 head rest counts w.1)
      (sym is ∙ begins_with w.0 head rest counts w.1) in (
        (ap (λ (f : Front). f.head) one.0, one.1),
        subst
            (λ (f : Front). (f.head.heading.kind ≡ Cartridge) × MayCountBeside which f.pair f.head spare)
            (sym one.0) (w.1.head_is.kind, w.2),
      )

  -- it is a side of a cartridge
  pub counts_no_other : IsNotOf Cartridge counts → ⊥
  counts_no_other (inl never) = never counts_begins.0 counts_begins.1 counts_begins.2 counts_begins.4
  counts_no_other (inr (kind, differs, (front, more, ok, is, begins))) =
      let here = begins ∙ ap (λ (l : List ℕ). l ++ more) (append-nil (spell_front front)) in
      differs (sym is ∙ (counted_front front more ok here).1.0)

-- a side stands for frames, and the pair for the same
module _ (which : Which) (front : Front) (bodies : List (List ℕ)) (counts spare : List ℕ) where
  -- the pair, by the side that counts and the spare
  pub sides_stand : front.head.heading.kind ≡ Cartridge → StandsFor front bodies counts →
      MayCountBeside which front.pair front.head spare → SidesStandFor which front.head bodies counts spare
  sides_stand kind (side, (gate, more, shut, is)) beside = (
    record { each = side.holds; base = side.base },
    (
      gate,
      more,
      shut,
      side_counts front (flat_map frame bodies ++ gate ∷ more) counts kind side.begins
          (is ∙ append_assoc (spell_front front) (flat_map frame bodies) (gate ∷ more)) which spare beside,
    ),
  )

-- where the pair stands for frames, so does the side that counts
pub counted_stands : (which : Which) (head : Head) (bodies : List (List ℕ)) (counts spare : List ℕ) →
    SidesStandFor which head bodies counts spare →
    (pair : ℕ) × (head.heading.kind ≡ Cartridge) × StandsFor (front_with head pair) bodies counts
    × MayCountBeside which pair head spare
counted_stands which head bodies counts spare (frames, (gate, more, shut, it)) =
    let w = beside_counts which head (flat_map frame bodies ++ gate ∷ more) counts spare it in
    let front = front_with head w.0 in (
      w.0,
      w.1.head_is.kind,
      (
        record {
          begins = has_front w.0 head (flat_map frame bodies ++ gate ∷ more) counts w.1;
          holds = frames.each;
          base = frames.base;
        },
        (
          gate,
          more,
          shut,
          begins_with w.0 head (flat_map frame bodies ++ gate ∷ more) counts w.1
              ∙ sym (append_assoc (spell_front front) (flat_map frame bodies) (gate ∷ more)),
        ),
      ),
      w.2,
    )

-- the place of a gate, by the side and by the pair
same_place : (front : Front) (bodies : List (List ℕ)) →
    length (spell front bodies) ≡ gate_behind front.head bodies
same_place front bodies = omega (
  arith,
  length-append (spell_front front) (flat_map frame bodies),
  length-append (start OPEN front.head.heading.kind front.pair) (spell_side_head front.head),
  length_start front.head.heading.kind front.pair,
  length-append (spell_side_head front.head) (flat_map frame bodies),
)

-- where a side that counts is damaged, the pair is damaged at the same place
pub sides_damaged : (which : Which) (counts spare : List ℕ) (at : ℕ) (damage : IsDamagedAt counts at) →
    damage.0.head.heading.kind ≡ Cartridge → MayCountBeside which damage.0.pair damage.0.head spare →
    IsPairDamagedAt (first_image which counts spare) (second_image which counts spare) at
sides_damaged which counts spare at (front, bodies, behind, ok, each, is, here, bad) kind beside = (
  which,
  front.head,
  bodies,
  behind,
  each,
  side_counts front (flat_map frame bodies ++ behind) counts kind ok
      (is ∙ append_assoc (spell_front front) (flat_map frame bodies) behind) which spare beside,
  sym here ∙ same_place front bodies,
  bad,
)

-- where the pair is damaged, so is the side that counts
pub counted_damaged : (which : Which) (head : Head) (bodies : List (List ℕ)) (behind counts spare : List ℕ) (at : ℕ) →
    All IsBody bodies →
    SideCounts which head (flat_map frame bodies ++ behind) (first_image which counts spare)
    (second_image which counts spare) →
    at ≡ gate_behind head bodies → IsBroken bodies behind ⊎ LacksFrames head bodies behind → IsDamagedAt counts at
counted_damaged which head bodies behind counts spare at each it here bad =
    let w = beside_counts which head (flat_map frame bodies ++ behind) counts spare it in
    let front = front_with head w.0 in (
      front,
      bodies,
      behind,
      has_front w.0 head (flat_map frame bodies ++ behind) counts w.1,
      each,
      begins_with w.0 head (flat_map frame bodies ++ behind) counts w.1
          ∙ sym (append_assoc (spell_front front) (flat_map frame bodies) behind),
      same_place front bodies ∙ sym here,
      bad,
    )
