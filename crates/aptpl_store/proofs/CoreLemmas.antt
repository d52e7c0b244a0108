-- What a save is to the core of a store: the state is accepted, and it is stored or the disk fails.
use Rattle.std.proofs.Common.{◌≡◌, inl, inr, ℕ, ◌<◌, ◌+◌, List, [], ◌∷◌, ◌++◌, length, take, false, None, Some, refl, sym, subst, arith, length-append}
use Rattle.std.proofs.lemmas.List.{take_all, take_at}
use Rattle.tape_disk.specs.Disk.{DiskState, Each, IsDisk, Keeps}
use Rattle.tape_disk.specs.Moments.{LeavesOnly, weakened}
use Rattle.gate_journal.specs.Side.{Heading}
use Rattle.accepted_changes.specs.Core.{Core, IsCore, settled, with_item}
use Rattle.accepted_changes.specs.Device.{IsDevice, one_disk, one_is_device, one_keeps}
use Rattle.accepted_changes.specs.Events.{CoreMoves, core_moves_on}
use Rattle.accepted_changes.specs.Kinds.{GivesSoMany, moves_accepting, moves_failing, moves_storing}
use Rattle.pr_core.specs.declared.states.PrState.{PrState}
use Rattle.aptpl_store.specs.Contents.{GivesStates, ShowsStates}
use Rattle.aptpl_store.specs.Kept.{core_with, store_rules}

-- the accepted and stored states are no more than were accepted
core_is : (heading : Heading) (states : List PrState) → IsCore (core_with heading states None)
core_is heading states = record { safe = omega arith; stored = omega arith }

module _ {D : Type 0} (device : D → DiskState) (is_disk : (d : D) → (device d).honest → IsDisk (device d))
    (disk disk' : D) (keeps : Keeps (device disk) (device disk'))
    (heading : Heading) (states : List PrState) (state : PrState)
    (leaves : (device disk).honest
    → LeavesOnly (device disk) (device disk') (ShowsStates heading states (Some state))) where
  abbrev old : Core Heading PrState
  old = core_with heading states None

  abbrev mid : Core Heading PrState
  mid = with_item state old

  is_device : IsDevice (one_disk device)
  is_device = one_is_device device

  accepts : CoreMoves store_rules (one_disk device) disk disk old mid (state ∷ [])
  accepts =
      moves_accepting store_rules (one_disk device) is_device disk old state (is_disk disk)
      (core_is heading states) refl refl refl

  counted : length (states ++ state ∷ []) ≡ length states + 1
  counted = omega (arith, length-append states (state ∷ []))

  before : take (length states) (states ++ state ∷ []) ≡ states
  before = take_at states (state ∷ []) (length states) refl

  after : take (length states + 1) (states ++ state ∷ []) ≡ states ++ state ∷ []
  after = take_all (length states + 1) (states ++ state ∷ []) (omega (arith, counted))

  either : (image : List ℕ) → ShowsStates heading states (Some state) image
      → GivesSoMany store_rules mid 1 image
  either image (inl gives) = inl (subst (λ (l : List PrState). GivesStates heading l image) (sym before) gives)
  either image (inr gives) = inr (subst (λ (l : List PrState). GivesStates heading l image) (sym after) gives)

  so_many : (device disk).honest → LeavesOnly (device disk) (device disk') (GivesSoMany store_rules mid 1)
  so_many h =
      weakened (device disk) (device disk') (ShowsStates heading states (Some state)) (GivesSoMany store_rules mid 1)
      (leaves h) either

  -- the state was saved
  pub moves_saved : ((device disk).honest → Each (device disk') (GivesStates heading (states ++ state ∷ [])))
      → CoreMoves store_rules (one_disk device) disk disk' old (core_with heading (states ++ state ∷ []) None)
      (state ∷ [])
  moves_saved sure =
      let stored = moves_storing store_rules (one_disk device) is_device disk disk' mid 1
      (one_keeps device disk disk' keeps) (refl, refl) refl (omega (arith, counted)) so_many
      (λ h image left. subst (λ (l : List PrState). GivesStates heading l image) (sym after) (sure h image left)) in
      subst (λ (core : Core Heading PrState). CoreMoves store_rules (one_disk device) disk disk' old core (state ∷ []))
      (λ i. record {
        base = heading;
        accepted = states ++ state ∷ [];
        stored = sym counted i;
        safe = sym counted i;
        fault = false;
        stuck = false;
        recovering = false;
      })
      (core_moves_on store_rules (one_disk device) is_device disk disk disk' old mid (settled 1 mid) (state ∷ []) []
      accepts stored)

  -- the disk failed in the save
  pub moves_broken : (device disk).failures < (device disk').failures
      → CoreMoves store_rules (one_disk device) disk disk' old (core_with heading states (Some state)) (state ∷ [])
  moves_broken rose =
      core_moves_on store_rules (one_disk device) is_device disk disk disk' old mid
      (core_with heading states (Some state)) (state ∷ []) [] accepts
      (moves_failing store_rules (one_disk device) is_device disk disk' mid 1 (is_disk disk')
      (one_keeps device disk disk' keeps) rose (refl, refl) refl (omega (arith, counted)) so_many)
