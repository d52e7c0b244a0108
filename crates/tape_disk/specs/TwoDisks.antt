-- Two disks as one: what a crash leaves of both, at each moment of calls of one or the other.
use Rattle.std.specs.Prelude.{◌≡◌, ◌⊎◌, ℕ, zero, suc, ◌+◌, ◌≤◌, List, refl}
use Rattle.std.proofs.Common.{inl, inr, ⊎_elim, subst, sym, arith}
use Rattle.tape_disk.specs.Disk.{DiskState, IsDisk, Keeps}
use Rattle.tape_disk.specs.Moments as Moments
use Rattle.tape_disk.specs.Moments.{LeavesOnly}

-- two disks (own)
pub record TwoDisks (D : Type 0) : Type 0 where
  pub first : D
  pub second : D

-- an image of each of two disks (own)
abbrev pub Images : Type 0
Images = List ℕ × List ℕ

module _ {D : Type 0} (state : D → DiskState) where
  -- both are honest (own)
  abbrev pub AreHonest : TwoDisks D → Type 0
  AreHonest disks = (state disks.first).honest × (state disks.second).honest

  -- both obey the laws of honest disks (own)
  abbrev pub AreDisks : TwoDisks D → Type 0
  AreDisks disks = IsDisk (state disks.first) × IsDisk (state disks.second)

  -- how many calls of either have failed (own)
  abbrev pub failures_of : TwoDisks D → ℕ
  failures_of disks = (state disks.first).failures + (state disks.second).failures

  -- what holds of calls after every result, for both disks (own)
  abbrev pub KeepsDisks : TwoDisks D → TwoDisks D → Type 0
  KeepsDisks old new = Keeps (state old.first) (state new.first) × Keeps (state old.second) (state new.second)

  -- the bytes that reads of each return (own)
  abbrev pub seen_of_two : TwoDisks D → Images
  seen_of_two disks = ((state disks.first).seen, (state disks.second).seen)

  -- the images that a crash may leave now: any of the one disk with any of the other (own)
  abbrev pub MayLeave : TwoDisks D → Images → Type 0
  MayLeave disks images = (state disks.first).may_leave images.0 × (state disks.second).may_leave images.1

  -- all images that a crash may leave now have P (own)
  abbrev pub EachOfTwo : TwoDisks D → (Images → Type 0) → Type 0
  EachOfTwo disks P = (images : Images) → MayLeave disks images → P images

  -- Calls of the first disk lead from old to new, while the second rests: images that a crash since old might have left
  -- have P (own).
  abbrev pub FirstMoves : TwoDisks D → TwoDisks D → (Images → Type 0) → Type 0
  FirstMoves old new P =
      (new.second ≡ old.second)
      × LeavesOnly (state old.first) (state new.first)
      (λ one. (two : List ℕ) → (state old.second).may_leave two → P (one, two))

  -- The same for calls of the second disk, while the first rests (own).
  abbrev pub SecondMoves : TwoDisks D → TwoDisks D → (Images → Type 0) → Type 0
  SecondMoves old new P =
      (new.first ≡ old.first)
      × LeavesOnly (state old.second) (state new.second)
      (λ two. (one : List ℕ) → (state old.first).may_leave one → P (one, two))

  -- A number of runs, one after another, each of one disk, lead from old to new: images that a crash might have left at
  -- a moment of them have P (own).
  abbrev pub LegsTo : ℕ → TwoDisks D → TwoDisks D → (Images → Type 0) → Type 0
  LegsTo zero old new P = (new ≡ old) × EachOfTwo new P
  LegsTo (suc n) old new P =
      (mid : TwoDisks D) × LegsTo n old mid P × (FirstMoves mid new P ⊎ SecondMoves mid new P)

  -- images that a crash at some moment since old might have left have P (own)
  abbrev pub TwoLeave : TwoDisks D → TwoDisks D → (Images → Type 0) → Type 0
  TwoLeave old new P = (legs : ℕ) × LegsTo legs old new P

  -- nothing was called
  pub two_rest_still : (now : TwoDisks D) (P : Images → Type 0) → EachOfTwo now P → TwoLeave now now P
  two_rest_still now P here = (zero, (refl, here))

  -- two runs, one after another
  pub two_in_sequence : (a b c : TwoDisks D) (P : Images → Type 0) → TwoLeave a b P → TwoLeave b c P → TwoLeave a c P
  two_in_sequence a b c P first (zero, then_) =
      subst (λ (x : TwoDisks D). TwoLeave a x P) (sym then_.0) first
  two_in_sequence a b c P first (suc n, then_) =
      let so_far = two_in_sequence a b then_.0 P first (n, then_.1) in
      (suc so_far.0, (then_.0, so_far.1, then_.2))

  -- a weaker property of the images
  pub two_weakened : (old new : TwoDisks D) (P Q : Images → Type 0) → TwoLeave old new P
      → ((images : Images) → P images → Q images) → TwoLeave old new Q
  two_weakened old new P Q (zero, legs) means = (zero, (legs.0, λ images left. means images (legs.1 images left)))
  two_weakened old new P Q (suc n, legs) means =
      let so_far = two_weakened old legs.0 P Q (n, legs.1) means in (
        suc so_far.0,
        (legs.0, so_far.1, ⊎_elim (λ run. inl (by_first legs.0 run)) (λ run. inr (by_second legs.0 run)) legs.2),
      )
    where
      by_first : (mid : TwoDisks D) → FirstMoves mid new P → FirstMoves mid new Q
      by_first mid run = (
        run.0,
        Moments.weakened (state mid.first) (state new.first)
            (λ one. (two : List ℕ) → (state mid.second).may_leave two → P (one, two))
            (λ one. (two : List ℕ) → (state mid.second).may_leave two → Q (one, two)) run.1
            (λ one has two may. means (one, two) (has two may)),
      )

      by_second : (mid : TwoDisks D) → SecondMoves mid new P → SecondMoves mid new Q
      by_second mid run = (
        run.0,
        Moments.weakened (state mid.second) (state new.second)
            (λ two. (one : List ℕ) → (state mid.first).may_leave one → P (one, two))
            (λ two. (one : List ℕ) → (state mid.first).may_leave one → Q (one, two)) run.1
            (λ two has one may. means (one, two) (has one may)),
      )

  -- what holds at each moment since holds now
  pub two_hold_now : (old new : TwoDisks D) (P : Images → Type 0) → AreDisks new → TwoLeave old new P
      → EachOfTwo new P
  two_hold_now old new P are (zero, legs) = legs.1
  two_hold_now old new P are (suc n, legs) =
      ⊎_elim
      (λ (run : FirstMoves legs.0 new P). λ images left.
      Moments.holds_now (state legs.0.first) (state new.first)
      (λ one. (two : List ℕ) → (state legs.0.second).may_leave two → P (one, two)) are.0 run.1 images.0 left.0 images.1
      (subst (λ (d : D). (state d).may_leave images.1) run.0 left.1))
      (λ (run : SecondMoves legs.0 new P). λ images left.
      Moments.holds_now (state legs.0.second) (state new.second)
      (λ two. (one : List ℕ) → (state legs.0.first).may_leave one → P (one, two)) are.1 run.1 images.1 left.1 images.0
      (subst (λ (d : D). (state d).may_leave images.0) run.0 left.0))
      legs.2

  -- a weaker property of the images now
  pub each_weakened : (now : TwoDisks D) (P Q : Images → Type 0) → EachOfTwo now P
      → ((images : Images) → P images → Q images) → EachOfTwo now Q
  each_weakened now P Q each means images left = means images (each images left)

  -- calls of one of the two are calls of both
  pub one_leg : (old new : TwoDisks D) (P : Images → Type 0) → EachOfTwo old P
      → FirstMoves old new P ⊎ SecondMoves old new P → TwoLeave old new P
  one_leg old new P here run = (suc zero, (old, (refl, here), run))

  -- where calls write nothing, what held of each image before holds at each moment of them
  pub still_leave : (old new : TwoDisks D) (P : Images → Type 0) → TwoLeave old new (MayLeave old) → EachOfTwo old P
      → TwoLeave old new P
  still_leave old new P quiet here = two_weakened old new (MayLeave old) P quiet here

  -- failures never fall
  pub counted_of_two : (old new : TwoDisks D) → KeepsDisks old new → failures_of old ≤ failures_of new
  counted_of_two old new keeps = omega (arith, keeps.0.counted, keeps.1.counted)
