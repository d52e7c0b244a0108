-- What was acknowledged of a cartridge survives wherever the cartridge is moved.
use Rattle.std.specs.Prelude.{◌≡◌, ◌≢◌, ◌⊎◌, ◌++◌, ℕ, List, [], ◌∷◌, Bool, true, false, Option, None, Some, refl, if◌then◌else◌}
use Rattle.std.proofs.Common.{inl, inr, sym, ◌∙◌, ap, subst}
use Rattle.tape_disk.specs.Disk.{DiskState, IsDisk}
use Rattle.scsi_sense.specs.declared.replies.Reply.{Reply}
use Rattle.volume_core.specs.declared.changes.Change.{Change}
use Rattle.accepted_changes.specs.Core.{CanAcknowledge}
use Rattle.accepted_changes.specs.Device.{two_disks}
use Rattle.accepted_changes.specs.Laws.{CrashesKeepAcknowledged, StepsKeepCores}
use Rattle.tape_buffer.specs.Rules.{medium_rules}
use Rattle.tape_buffer.specs.Moves.{medium_core}
use Rattle.tape_buffer.specs.State.{BufferState}
use Rattle.aptpl_store.specs.Kept.{store_below, store_kept}
use Rattle.drive_commands.specs.Relations.{made_nothing}
use Rattle.drive_commands.specs.State.{medium_in}
use Rattle.drive_commands.specs.Execute.{is_device_fault}
use Rattle.drive_commands.specs.Events.{Carry, Event, FlushTurn, InDrive, OfLibrary, WriteOut}
use Rattle.element_slots.specs.Slots.{held_at, is_slot}
use Rattle.bay_moves.specs.Bays.{IsSafeIn}
use Rattle.bay_moves.specs.Elements.{BayState, HeldState, bay_at, cartridge_at, cartridge_in}
use Rattle.bay_moves.specs.Finish.{TurnsAt}
use Rattle.bay_moves.specs.Journeys.{GoesWith, GoesWithAll, IsThen, KeepsWhatIsSafe, StopsKeepWhatIsMoved}
use Rattle.bay_moves.specs.Moves.{IsSameAt, KeepsCartridges, StaysAt}
use Rattle.bay_moves.proofs.CartridgeLemmas.{Moved, honest_in, keep_media, moved_as, moved_by, moved_event, moved_nowhere, moved_on}
use Rattle.bay_moves.proofs.PlaceLemmas.{bay_elsewhere, bay_here, in_bay, same_or_not}

module _ {D : Type 0} (state : D → DiskState) (is_disk : (disk : D) → (state disk).honest → IsDisk (state disk)) where
  -- a cartridge that moved is at its new place
  still_there : (a b : Option (BufferState D)) (changes : List Change) (medium : BufferState D) → a ≡ Some medium
      → Moved state is_disk a b changes → (later : BufferState D) × (b ≡ Some later)
  still_there None b changes medium is moved = absurd (cc)
  still_there (Some a) None changes medium is moved = absurd moved
  still_there (Some a) (Some b) changes medium is moved = (b, refl)

  -- the same cartridge accepted nothing
  same_moved : (a b : Option (BufferState D)) → IsSameAt state a b → Moved state is_disk a b []
  same_moved None None same = refl
  same_moved None (Some b) same = absurd same
  same_moved (Some a) None same = absurd same
  same_moved (Some a) (Some b) same = same.moves

  stays_moved : (a b : Option (BufferState D)) → StaysAt state a b → Moved state is_disk a b []
  stays_moved None None stays = refl
  stays_moved None (Some b) stays = absurd stays
  stays_moved (Some a) None stays = absurd stays
  stays_moved (Some a) (Some b) stays = stays.moves

  unmoved : (a b : Option (BufferState D)) → b ≡ a → Moved state is_disk a b []
  unmoved a b same =
      subst (λ (x : Option (BufferState D)). Moved state is_disk a x []) (sym same) (moved_nowhere state is_disk a)

  between : (a a' b b' : Option (BufferState D)) (changes : List Change) → a' ≡ a → b' ≡ b
      → Moved state is_disk a b changes → Moved state is_disk a' b' changes
  between a a' b b' changes from to moved =
      subst (λ (x : Option (BufferState D)). Moved state is_disk x b' changes) (sym from)
      (subst (λ (x : Option (BufferState D)). Moved state is_disk a x changes) (sym to) moved)

  -- a cartridge through a move
  moved_along : (old new : HeldState D) (from to place after : ℕ) (reply : Reply) (medium : BufferState D)
      → cartridge_at old place ≡ Some medium → KeepsCartridges state old from to reply new
      → IsThen from to reply place after → Moved state is_disk (cartridge_at old place) (cartridge_at new after) []
  moved_along old new from to place after reply medium there (inl (good, moves)) (inl (is_good, here, is)) =
      between (cartridge_at old from) (cartridge_at old place) (cartridge_at new to) (cartridge_at new after) []
      (ap (λ (n : ℕ). cartridge_at old n) here) (ap (λ (n : ℕ). cartridge_at new n) is)
      (same_moved (cartridge_at old from) (cartridge_at new to) moves.there)
  moved_along old new from to place after reply medium there (inl (good, moves)) (inr (inl not_good, is)) =
      absurd (not_good good)
  moved_along old new from to place after reply medium there (inl (good, moves)) (inr (inr apart, is)) =
      by (same_or_not place to)
    where
      by : (place ≡ to) ⊎ (place ≢ to) → Moved state is_disk (cartridge_at old place) (cartridge_at new after) []
      by (inl here) =
          let clash : Some medium ≡ None = sym there ∙ ap (λ (n : ℕ). cartridge_at old n) here ∙ moves.room in
          absurd (cc)
      by (inr off) =
          unmoved (cartridge_at old place) (cartridge_at new after)
          (ap (λ (n : ℕ). cartridge_at new n) is ∙ moves.others place apart off)
  moved_along old new from to place after reply medium there (inr (not_good, stays)) (inl (good, here, is)) =
      absurd (not_good good)
  moved_along old new from to place after reply medium there (inr (not_good, stays)) (inr (why, is)) =
      by (same_or_not place from)
    where
      by : (place ≡ from) ⊎ (place ≢ from) → Moved state is_disk (cartridge_at old place) (cartridge_at new after) []
      by (inl here) =
          between (cartridge_at old from) (cartridge_at old place) (cartridge_at new from) (cartridge_at new after) []
          (ap (λ (n : ℕ). cartridge_at old n) here) (ap (λ (n : ℕ). cartridge_at new n) (is ∙ here))
          (stays_moved (cartridge_at old from) (cartridge_at new from) stays.there)
      by (inr off) =
          unmoved (cartridge_at old place) (cartridge_at new after)
          (ap (λ (n : ℕ). cartridge_at new n) is ∙ stays.others place off)

  -- the medium of a drive through a turn
  turned : (old new : Option (BayState D)) → TurnsAt state old new
      → Moved state is_disk (cartridge_in old) (cartridge_in new) []
  turned None None turns = refl
  turned None (Some new) turns = absurd turns
  turned (Some old) None turns = absurd turns
  turned (Some old) (Some new) turns =
      moved_event state is_disk store_kept (store_below state) old new FlushTurn None made_nothing
      (turns.0, turns.1, refl)

  -- a cartridge while all is written out
  written : (old new : HeldState D) (place : ℕ)
      → ((number : ℕ) → TurnsAt state (bay_at old.bays number) (bay_at new.bays number)) → new.slots ≡ old.slots
      → Moved state is_disk (cartridge_at old place) (cartridge_at new place) []
  written old new place turns slots = by (is_slot place) refl
    where
      at : Bool → HeldState D → Option (BufferState D)
      at slot held = if slot then held_at held.slots place else cartridge_in (bay_at held.bays place)

      by : (slot : Bool) → is_slot place ≡ slot
          → Moved state is_disk (cartridge_at old place) (cartridge_at new place) []
      by true is =
          between (at true old) (cartridge_at old place) (at true new) (cartridge_at new place) []
          (ap (λ (b : Bool). at b old) is) (ap (λ (b : Bool). at b new) is)
          (unmoved (at true old) (at true new)
          (ap (λ (s : List (Option (BufferState D))). held_at s place) slots))
      by false is =
          between (at false old) (cartridge_at old place) (at false new) (cartridge_at new place) []
          (ap (λ (b : Bool). at b old) is) (ap (λ (b : Bool). at b new) is)
          (turned (bay_at old.bays place) (bay_at new.bays place) (turns place))

  -- a cartridge through an event
  moved_with : (old new : HeldState D) (place after : ℕ) (event : Event OfLibrary) (reply : Option Reply)
      (changes : List Change) (medium : BufferState D) → cartridge_at old place ≡ Some medium
      → GoesWith state old place event reply changes new after
      → Moved state is_disk (cartridge_at old place) (cartridge_at new after) changes
  moved_with old new place after (InDrive number event) reply changes medium there
      (made, did, is, inl (here, same)) =
      between (medium_in did.bay.bay) (cartridge_at old place) (medium_in did.left.bay) (cartridge_at new after) changes
      (ap (λ (n : ℕ). cartridge_at old n) (sym here) ∙ in_bay number did.bay old did.number_is did.is)
      (ap (λ (n : ℕ). cartridge_at new n) (is ∙ sym here) ∙ bay_here number did.left old new did.number_is did.now)
      (moved_as state is_disk (medium_in did.bay.bay) (medium_in did.left.bay) made.changes changes same
      (moved_event state is_disk store_kept (store_below state) did.bay did.left event reply made did.does))
  moved_with old new place after (InDrive number event) reply changes medium there
      (made, did, is, inr (apart, none)) =
      moved_as state is_disk (cartridge_at old place) (cartridge_at new after) [] changes none
      (unmoved (cartridge_at old place) (cartridge_at new after)
      (ap (λ (n : ℕ). cartridge_at new n) is
      ∙ bay_elsewhere number did.left old new did.now place (λ same. apart (sym same))))
  moved_with old new place after (Carry from to) (Some reply) changes medium there (moves, kept, is, none) =
      moved_as state is_disk (cartridge_at old place) (cartridge_at new after) [] changes none
      (moved_along old new from to place after reply medium there kept is)
  moved_with old new place after WriteOut None changes medium there (result, writes, is, none) =
      moved_as state is_disk (cartridge_at old place) (cartridge_at new after) [] changes none
      (between (cartridge_at old place) (cartridge_at old place) (cartridge_at new place) (cartridge_at new after) []
      refl (ap (λ (n : ℕ). cartridge_at new n) is) (written old new place writes.turns writes.slots))
  moved_with old new place after (Carry from to) None changes medium there goes = absurd goes
  moved_with old new place after WriteOut (Some reply) changes medium there goes = absurd goes

  moved_with_all : (old new : HeldState D) (place after : ℕ) (events : List (Event OfLibrary))
      (replies : List (Option Reply)) (changes : List Change)
      (medium : BufferState D) → cartridge_at old place ≡ Some medium
      → GoesWithAll state old place events replies changes new after
      → Moved state is_disk (cartridge_at old place) (cartridge_at new after) changes
  moved_with_all old new place after [] [] changes medium there (none, same, is) =
      moved_as state is_disk (cartridge_at old place) (cartridge_at new after) [] changes none
      (unmoved (cartridge_at old place) (cartridge_at new after)
      (ap (λ (n : ℕ). cartridge_at new n) is ∙ ap (λ (h : HeldState D). cartridge_at h place) same))
  moved_with_all old new place after (event ∷ events) (reply ∷ replies) changes medium there
      (mid, at, first, rest, one, others, same) =
      let here = moved_with old mid place at event reply first medium there one in
      let later = still_there (cartridge_at old place) (cartridge_at mid at) first medium there here in
      moved_as state is_disk (cartridge_at old place) (cartridge_at new after) (first ++ rest) changes same
      (moved_on state is_disk (cartridge_at old place) (cartridge_at mid at) (cartridge_at new after) first rest here
      (moved_with_all mid new at after events replies rest later.0 later.1 others))
  moved_with_all old new place after [] (reply ∷ replies) changes medium there goes = absurd goes
  moved_with_all old new place after (event ∷ events) [] changes medium there goes = absurd goes

  module _ (crash : CrashesKeepAcknowledged medium_rules (two_disks state)) (cores : StepsKeepCores medium_rules) where
    pub stops_keep_what_is_moved : StopsKeepWhatIsMoved state
    stops_keep_what_is_moved old acked new number after medium request reply events replies changes at known answers
        sure told goes =
        let taken = answers.step.taken in
        let was : cartridge_at old number ≡ medium_in answers.bay.bay =
        in_bay number answers.bay old answers.number_is answers.is in
        let is : cartridge_at acked number ≡ medium_in answers.left.bay =
        bay_here number answers.left old acked answers.number_is answers.now in
        let inside : medium_in answers.bay.bay ≡ Some medium = sym was ∙ at in
        let moved = moved_by state is_disk (medium_in answers.bay.bay) (medium_in answers.left.bay) taken.made.changes
        (is_device_fault answers.step.answer) taken.advances in
        let first = between (medium_in answers.bay.bay) (cartridge_at old number) (medium_in answers.left.bay)
        (cartridge_at acked number) taken.made.changes was is moved in
        let later = still_there (cartridge_at old number) (cartridge_at acked number) taken.made.changes medium at
        first in
        let safe = answers.safe sure told
        (honest_in state is_disk crash cores store_kept (store_below state) (medium_in answers.bay.bay) medium
        inside known) in
        keep_media state is_disk crash cores (cartridge_at old number) (cartridge_at acked number)
        (cartridge_at new after) medium taken.made.changes changes at known first
        (moved_with_all acked new number after events replies changes later.0 later.1 goes)
        (λ left there. subst (λ (m : Option (BufferState D)). IsSafeIn state m) (sym is ∙ there) safe)

    pub keeps_what_is_safe : KeepsWhatIsSafe state
    keeps_what_is_safe old new place after medium events replies changes at known safe goes =
        keep_media state is_disk crash cores (cartridge_at old place) (cartridge_at old place)
        (cartridge_at new after) medium [] changes at known
        (unmoved (cartridge_at old place) (cartridge_at old place) refl)
        (moved_with_all old new place after events replies changes medium at goes)
        (λ left there. let same : medium ≡ left = cc in
        subst (λ (m : BufferState D). CanAcknowledge (medium_core state m)) same safe)
