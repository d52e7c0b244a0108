-- An order that the hosts' half of a drive answers is saved by the steps of one event.
use Rattle.std.proofs.Common.{◌≡◌, inl, inr, refl, ◌+◌, ℕ, List, [], ◌∷◌, ◌++◌, length, take, Option, None, Some, sym, ◌∙◌, subst, arith, length-append}
use Rattle.std.proofs.lemmas.List.{append-nil, take_all, take_at}
use Rattle.tape_disk.specs.Disk.{DiskState}
use Rattle.gate_journal.specs.Side.{Heading}
use Rattle.accepted_changes.specs.Events.{ShowsCore}
use Rattle.pr_core.specs.declared.states.PrState.{PrState}
use Rattle.aptpl_store.specs.Contents.{GivesStates, ShowsStates}
use Rattle.aptpl_store.specs.Kept.{StoreMoves, core_with, store_rules}
use Rattle.aptpl_store.specs.State.{OpenStore}
use Rattle.bay_moves.specs.Bays.{SavesIn}
use Rattle.split_bay.specs.Fronts.{FrontState, KeepsHostsHalf}

before : (states : List PrState) (more : PrState) → take (length states) (states ++ more ∷ []) ≡ states
before states more = take_at states (more ∷ []) (length states) refl

after : (states : List PrState) (more : PrState) → take (length states + 1) (states ++ more ∷ []) ≡ states ++ more ∷ []
after states more =
    take_all (length states + 1) (states ++ more ∷ []) (omega (arith, length-append states (more ∷ [])))

given_as : (heading : Heading) (xs ys : List PrState) (image : List ℕ) → xs ≡ ys → GivesStates heading xs image
    → GivesStates heading ys image
given_as heading xs ys image same gives = subst (λ (l : List PrState). GivesStates heading l image) same gives

-- an image that shows these states shows their core
to_core : (heading : Heading) (states : List PrState) (torn : Option PrState) (image : List ℕ)
    → ShowsStates heading states torn image → ShowsCore store_rules (core_with heading states torn) image
to_core heading states None image (inl gives) =
    inl (given_as heading states (take (length states) states) image
    (sym (take_all (length states) states (omega arith))) gives)
to_core heading states None image (inr gives) =
    inl (given_as heading (states ++ []) (take (length states) states) image
    (append-nil states ∙ sym (take_all (length states) states (omega arith))) gives)
to_core heading states (Some more) image (inl gives) =
    inl (given_as heading states _ image (sym (before states more)) gives)
to_core heading states (Some more) image (inr gives) =
    inr (given_as heading (states ++ more ∷ []) _ image (sym (after states more)) gives)

-- the store of a hosts' half that keeps what its type keeps saves by the steps of one event
pub saves_alone : {D : Type 0} (state : D → DiskState) (old : FrontState D) (new : OpenStore D) (saved : List PrState)
    → KeepsHostsHalf state old → StoreMoves state old.drive.keeper saved new
    → SavesIn state old.drive.keeper new saved
saves_alone state old new saved keeps moves =
    λ honest.
    let store = old.drive.keeper in
    (moves.goes honest
    (λ image left. to_core store.heading store.states store.torn image (keeps.orders.shows honest image left))).0
