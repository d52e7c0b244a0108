-- The images of a store with these states, or these with one more, in terms of its core.
use Rattle.std.proofs.Common.{◌≡◌, ◌⊎◌, inl, inr, ℕ, ◌≤◌, ◌+◌, List, [], ◌∷◌, ◌++◌, length, take, false, Option, None, Some, is_some, refl, sym, ◌∙◌, subst, arith, length-append}
use Rattle.std.proofs.lemmas.List.{append-nil, take_all, take_at}
use Rattle.tape_disk.specs.Disk.{DiskState}
use Rattle.tape_disk.specs.Moments.{LeavesOnly, weakened}
use Rattle.gate_journal.specs.Side.{Heading}
use Rattle.accepted_changes.specs.Core.{Core}
use Rattle.accepted_changes.specs.Device.{one_disk}
use Rattle.accepted_changes.specs.Events.{IsEvent, ShowsCore}
use Rattle.pr_core.specs.declared.states.PrState.{PrState}
use Rattle.pr_core.specs.Keepers.{last_saved}
use Rattle.aptpl_store.specs.Contents.{GivesStates, ShowsStates}
use Rattle.aptpl_store.specs.Kept.{core_with, store_rules}
use Rattle.bay_moves.proofs.CoreLemmas.{Either, MayAccept, Within, fewer_accept, first_many, within_steps}

-- the last of states with one more is that one
pub last_more : (first : PrState) (states : List PrState) (state : PrState)
    → last_saved first (states ++ state ∷ []) ≡ state
last_more first [] state = refl
last_more first (next ∷ later) state = last_more next later state

before : (states : List PrState) (more : PrState) → take (length states) (states ++ more ∷ []) ≡ states
before states more = take_at states (more ∷ []) (length states) refl

after : (states : List PrState) (more : PrState) → take (length states + 1) (states ++ more ∷ []) ≡ states ++ more ∷ []
after states more =
    take_all (length states + 1) (states ++ more ∷ []) (omega (arith, length-append states (more ∷ [])))

pub given_as : (heading : Heading) (xs ys : List PrState) (image : List ℕ) → xs ≡ ys → GivesStates heading xs image
    → GivesStates heading ys image
given_as heading xs ys image same gives = subst (λ (l : List PrState). GivesStates heading l image) same gives

-- an image shows these states exactly where it shows their core
pub to_core : (heading : Heading) (states : List PrState) (torn : Option PrState) (image : List ℕ)
    → ShowsStates heading states torn image → ShowsCore store_rules (core_with heading states torn) image
to_core heading states None image (inl gives) =
    inl (given_as heading states (take (length states) states) image
    (sym (take_all (length states) states (omega arith))) gives)
to_core heading states None image (inr gives) =
    inl (given_as heading (states ++ []) (take (length states) states) image
    (append-nil states ∙ sym (take_all (length states) states (omega arith))) gives)
to_core heading states (Some more) image (inl gives) =
    inl (given_as heading states _ image (sym (before states more)) gives)
to_core heading states (Some more) image (inr gives) =
    inr (given_as heading (states ++ more ∷ []) _ image (sym (after states more)) gives)

pub from_core : (heading : Heading) (states : List PrState) (torn : Option PrState) (image : List ℕ)
    → ShowsCore store_rules (core_with heading states torn) image → ShowsStates heading states torn image
from_core heading states None image (inl gives) =
    inl (given_as heading (take (length states) states) states image (take_all (length states) states (omega arith))
    gives)
from_core heading states None image (inr gives) =
    inl (given_as heading (take (length states) states) states image (take_all (length states) states (omega arith))
    gives)
from_core heading states (Some more) image (inl gives) =
    inl (given_as heading _ states image (before states more) gives)
from_core heading states (Some more) image (inr gives) =
    inr (given_as heading _ (states ++ more ∷ []) image (after states more) gives)

-- the core of a store has accepted its states, and the one whose save is in doubt
pub core_within : (heading : Heading) (states : List PrState) (torn : Option PrState) (more : PrState)
    → (torn ≡ None) ⊎ (torn ≡ Some more)
    → Within store_rules heading states more (core_with heading states torn)
core_within heading states torn more (inl none) =
    subst (λ (t : Option PrState). Within store_rules heading states more (core_with heading states t)) (sym none)
    (record {
      base_is = refl;
      accepted = inl refl;
      safe = omega arith;
      stored = omega arith;
      all = omega arith;
    })
core_within heading states torn more (inr some) =
    subst (λ (t : Option PrState). Within store_rules heading states more (core_with heading states t)) (sym some)
    (record {
      base_is = refl;
      accepted = inr refl;
      safe = omega arith;
      stored = omega arith;
      all = omega (arith, length-append states (more ∷ []));
    })

-- an image that gives the states, or these with one more
abbrev pub GivesEither : Heading → List PrState → PrState → List ℕ → Type 0
GivesEither heading states more image =
    GivesStates heading states image ⊎ GivesStates heading (states ++ more ∷ []) image

-- a core within these bounds shows one of the two
within_gives : (heading : Heading) (states : List PrState) (more : PrState) (core : Core Heading PrState)
    → Within store_rules heading states more core → (image : List ℕ) → ShowsCore store_rules core image
    → GivesEither heading states more image
within_gives heading states more core is image shows = by shows
  where
    either : (count : ℕ) → length states ≤ count → count ≤ length core.accepted
        → GivesStates core.base (take count core.accepted) image → GivesEither heading states more image
    either count enough few gives =
        then_ (first_many store_rules heading states more core.accepted count is.accepted enough few)
      where
        there : GivesStates heading (take count core.accepted) image
        there = subst (λ (h : Heading). GivesStates h (take count core.accepted) image) is.base_is gives

        then_ : Either store_rules heading states more (take count core.accepted)
            → GivesEither heading states more image
        then_ (inl same) = inl (given_as heading (take count core.accepted) states image same there)
        then_ (inr same) = inr (given_as heading (take count core.accepted) (states ++ more ∷ []) image same there)

    by : ShowsCore store_rules core image → GivesEither heading states more image
    by (inl gives) = either core.safe is.safe (omega (arith, is.stored, is.all)) gives
    by (inr gives) = either core.stored (omega (arith, is.safe, is.stored)) is.all gives

-- at each moment of an event that accepts one more, or nothing, the images give one of the two
pub event_leaves : {D : Type 0} (disk : D → DiskState) (d d' : D) (heading : Heading) (states : List PrState)
    (more : PrState)
    (old new : Core Heading PrState) (made : List PrState) → Within store_rules heading states more old
    → (made ≡ []) ⊎ ((made ≡ more ∷ []) × (old.accepted ≡ states))
    → IsEvent store_rules (one_disk disk) d d' old new made
    → LeavesOnly (disk d) (disk d') (GivesEither heading states more)
event_leaves disk d d' heading states more old new made is fits event =
    weakened (disk d) (disk d') _ (GivesEither heading states more) event.moments
    (λ image shown.
    within_gives heading states more shown.1
    (within_steps store_rules heading states more (λ base other items never. never)
    (take shown.0 event.steps) old shown.1 is
    (fewer_accept store_rules heading states more event.steps shown.0 old.accepted (may fits)) shown.2)
    image shown.3)
  where
    may : (made ≡ []) ⊎ ((made ≡ more ∷ []) × (old.accepted ≡ states))
        → MayAccept store_rules heading states more event.steps old.accepted
    may (inl none) = inl (event.accepts ∙ none)
    may (inr one) = inr (event.accepts ∙ one.0, one.1)

pub none_torn : (torn : Option PrState) → is_some torn ≡ false → torn ≡ None
none_torn None none = refl
none_torn (Some state) none = absurd (cc)
