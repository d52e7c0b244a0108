-- What is found of a drive is what a flusher's turn leaves that came before the last of its changes.
use Rattle.std.proofs.Common.{◌≡◌, ◌++◌, List, Bool, true, false, not, refl, sym, ◌∙◌, ap, subst, inl, inr, ◌⊎◌}
use Rattle.std.specs.Prelude.{◌&&◌}
use Rattle.volume_core.specs.declared.changes.Change.{Change}
use Rattle.volume_core.specs.declared.media.Turn.{Turn}
use Rattle.volume_core.specs.declared.media.Turn.TheVariants.{Device, Idle, Stored}
use Rattle.volume_core.specs.Medium.{MediumState, Turns}
use Rattle.drive_commands.specs.declared.bays.Bay.{Bay}
use Rattle.drive_commands.specs.declared.bays.Bay.TheVariants.{Empty, Loaded, Unloaded}
use Rattle.drive_commands.specs.State.{Machine}
use Rattle.drive_commands.specs.Turn.{after_turn}
use Rattle.split_runs.specs.Found.{TurnedDrive, having_pending}
use Rattle.split_bay.specs.Looks.{LookedIn, Looks, deferred_after, fails_anew}
use Rattle.split_runs.proofs.TurnedLemmas.{turned_before}

never_both : (b : Bool) → b && not b ≡ false
never_both true = refl
never_both false = refl

-- the deferred error is as the turn leaves it: what works or has failed already does not fail anew
deferred_so : (medium left : MediumState) (found since : List Change) (turn : Turn) (old : Machine)
    → medium.awake ≡ true → Turns (having_pending medium found) turn left
    → deferred_after (fails_anew (Loaded medium) (Loaded (having_pending left (left.pending ++ since)))) old.deferred
    ≡ (after_turn turn left old).deferred
deferred_so medium left found since Idle old awake turns =
    ap (λ (b : Bool). deferred_after b old.deferred)
    (ap (λ (m : MediumState). (m.awake && m.failed) && not medium.failed) turns.1
    ∙ (λ i. (awake i && medium.failed) && not medium.failed) ∙ never_both medium.failed)
deferred_so medium left found since (Stored n) old awake turns =
    λ i. deferred_after ((turns.4.awake i && turns.4.works i) && not medium.failed) old.deferred
deferred_so medium left found since Device old awake turns =
    λ i. deferred_after ((turns.2.awake i && turns.2.broken i) && not (turns.0 i)) old.deferred

-- a turn leaves all else of a drive as it is
left_so : (turn : Turn) (left now : MediumState) (old : Machine)
    → record old { bay = Loaded now; deferred = (after_turn turn left old).deferred }
    ≡ record (after_turn turn left old) { bay = Loaded now }
left_so Idle left now old = refl
left_so (Stored n) left now old = refl
left_so Device left now old = refl

turned_from : (turn : Turn) (left before : MediumState) (old : Machine)
    → after_turn turn left old ≡ after_turn turn left (record old { bay = Loaded before })
turned_from Idle left before old = refl
turned_from (Stored n) left before old = refl
turned_from Device left before old = refl

-- what is found of a drive with a loaded medium that is awake is what its turn leaves
pub found_turned : (old new : Machine) (medium : MediumState) → Looks old new → old.bay ≡ Loaded medium
    → medium.awake ≡ true → TurnedDrive medium old new
found_turned old new medium looks was awake =
    by new.bay refl (subst (λ (b : Bay MediumState). LookedIn b new.bay) was looks.bay)
  where
    by : (bay : Bay MediumState) → new.bay ≡ bay → LookedIn (Loaded medium) bay → TurnedDrive medium old new
    by Empty is never = absurd never
    by (Unloaded found) is never = absurd never
    by (Loaded found) is looked =
        let before = turned_before medium found looked awake in
        let now = having_pending before.left (before.left.pending ++ before.since) in
        let here : new.bay ≡ Loaded now = is ∙ ap Loaded before.found in
        record {
          first = before.first;
          since = before.since;
          pending = before.pending;
          turn = before.turn;
          left = before.left;
          stores = before.stores;
          step =
              λ was. (
                before.turn,
                (
                  awake,
                  before.left,
                  before.turns,
                  turned_from before.turn before.left (having_pending medium before.first) was,
                ),
                refl,
                refl,
              );
          found =
              looks.others
              ∙ (λ i. record old {
                bay = here i;
                deferred = deferred_after (fails_anew (was i) (here i)) old.deferred;
              })
              ∙ (λ i. record old {
                bay = Loaded now;
                deferred =
                    deferred_so medium before.left before.first before.since before.turn old awake before.turns i;
              })
              ∙ left_so before.turn before.left now old;
        }

-- a drive in which nothing is loaded is found as it was
pub found_as_it_was : (old new : Machine) → Looks old new
    → (old.bay ≡ Empty) ⊎ ((medium : MediumState) × (old.bay ≡ Unloaded medium) × (medium.awake ≡ false))
    → new ≡ old
found_as_it_was old new looks (inl empty) =
    by new.bay refl (subst (λ (b : Bay MediumState). LookedIn b new.bay) empty looks.bay)
  where
    by : (bay : Bay MediumState) → new.bay ≡ bay → LookedIn Empty bay → new ≡ old
    by (Unloaded found) is never = absurd never
    by (Loaded found) is never = absurd never
    by Empty is looked =
        looks.others
        ∙ (λ i. record old { bay = is i; deferred = deferred_after (fails_anew (empty i) (is i)) old.deferred })
        ∙ (λ i. record old { bay = sym empty i })
found_as_it_was old new looks (inr parked) =
    by new.bay refl (subst (λ (b : Bay MediumState). LookedIn b new.bay) parked.1 looks.bay)
  where
    by : (bay : Bay MediumState) → new.bay ≡ bay → LookedIn (Unloaded parked.0) bay → new ≡ old
    by Empty is never = absurd never
    by (Loaded found) is never = absurd never
    by (Unloaded found) is looked =
        let here : new.bay ≡ Unloaded parked.0 = is ∙ ap Unloaded (looked.parked parked.2) in
        looks.others
        ∙ (λ i. record old { bay = here i; deferred = deferred_after (fails_anew (parked.1 i) (here i)) old.deferred })
        ∙ (λ i. record old { bay = sym parked.1 i })
