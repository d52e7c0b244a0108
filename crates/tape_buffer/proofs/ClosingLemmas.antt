-- A medium is parked: what its cartridge's side then gives.
use Rattle.std.specs.Prelude.{◌≡◌, ◌⊎◌, ◌+◌, ◌++◌, List, [], Bool, true, false, Some, Ok, length, sum_by, refl}
use Rattle.std.proofs.Common.{inl, inr, sym, ◌∙◌, ap, subst, arith, length-append}
use Rattle.std.proofs.lemmas.List.{append-nil}
use Rattle.std.proofs.lemmas.List.Sums.{sum_by-take-le}
use Rattle.vtl_base.specs.Below.{Advances, advances_on}
use Rattle.tape_disk.specs.Disk.{DiskState, IsDisk}
use Rattle.volume_core.specs.declared.changes.Change.{Change}
use Rattle.volume_core.specs.Medium.{IsParkedFrom, Settles, frame_size}
use Rattle.volume_core.specs.Stores.{Stores}
use Rattle.cartridge.specs.Contents.{Start, changes_of, changes_since, start_of}
use Rattle.cartridge.specs.State.{ClosedCartridge, OpenCartridge}
use Rattle.accepted_changes.specs.Core.{Core, stopped}
use Rattle.accepted_changes.specs.Device.{two_disks, two_is_device}
use Rattle.accepted_changes.specs.Events.{CoreMoves}
use Rattle.accepted_changes.specs.Kinds.{moves_stopping}
use Rattle.tape_buffer.specs.Moves.{buffer_below, medium_moves_on}
use Rattle.tape_buffer.specs.Rules.{medium_rules}
use Rattle.tape_buffer.specs.State.{IsTornFrom, closed_buffer, closed_state, found_core, open_buffer, open_core, open_state}
use Rattle.tape_buffer.proofs.CoreLemmas.{open_is_core, stored_front}
use Rattle.tape_buffer.proofs.TwoLemmas.{are_disks}

module _ {D : Type 0} (state : D → DiskState) (is_disk : (disk : D) → (state disk).honest → IsDisk (state disk)) where
  -- a closed cartridge of these parts
  abbrev shelved_of : OpenCartridge D → ClosedCartridge D
  shelved_of c = record { disks = c.disks; known = true; contents = c.contents; torn = c.torn }

  module _ (c : OpenCartridge D) (pending : List Change) (torn : IsTornFrom c.torn pending) where
    -- it is stopped, and what may be stored is kept
    shelved_core : found_core (Some c.contents) (changes_of c.torn)
        ≡ stopped (open_core c pending).stored (open_core c pending)
    shelved_core =
        λ i. record {
          base = start_of c.contents;
          accepted = (sym (stored_front c pending torn)) i;
          stored = length (changes_since c.contents) + length (changes_of c.torn);
          safe = length (changes_since c.contents);
          fault = false;
          stuck = false;
          recovering = true;
        }

    -- it has failed, or all that was accepted is safe
    may_stop : (pending ≡ []) ⊎ (c.failed ≡ true)
        → ((open_core c pending).fault ≡ true) ⊎ ((open_core c pending).recovering ≡ true)
        ⊎ ((open_core c pending).safe ≡ length (open_core c pending).accepted)
    may_stop (inr failed) = inl failed
    may_stop (inl none) =
        inr (inr (omega (
          arith,
          length-append (changes_since c.contents) pending,
          ap (λ (l : List Change). length l) none,
        )))

    pub advances_shelved : (pending ≡ []) ⊎ (c.failed ≡ true)
        → (shelved : ClosedCartridge D) → shelved ≡ shelved_of c
        → Advances (buffer_below state) (open_buffer c pending) [] false (closed_buffer shelved)
    advances_shelved at_rest shelved is =
        subst (λ (s : ClosedCartridge D). Advances (buffer_below state) (open_buffer c pending) [] false
        (closed_buffer s))
        (sym is)
        (record {
          moved =
              subst (λ (new : Core Start Change). CoreMoves medium_rules (two_disks state) c.disks c.disks
              (open_core c pending) new [])
              (sym shelved_core)
              (moves_stopping medium_rules (two_disks state) (two_is_device state) c.disks (open_core c pending)
              (are_disks state is_disk c.disks) (open_is_core c pending torn) (may_stop at_rest));
          counted = refl;
          honesty = (λ h. h, λ h. h);
          hand = (λ h. h, λ h. h);
        })

  module _ (c c' : OpenCartridge D) (pending pending' : List Change) where
    -- stored first, and then closed
    pub parks_after : (honest honest' : Type 0) (shelved : ClosedCartridge D) → (honest → honest')
        → Settles (open_state c pending) (Ok tt) (open_state c' pending')
        → Stores (open_state c pending) [] (open_state c' pending')
        → IsParkedFrom honest' c'.failed (open_state c' pending') (closed_state state shelved)
        → IsParkedFrom honest c.failed (open_state c pending) (closed_state state shelved)
    parks_after honest honest' shelved stays settled stores parked =
        let works = subst (λ (f : Bool). IsParkedFrom honest' f (open_state c' pending') (closed_state state shelved))
        settled.2.works parked in
        subst (λ (f : Bool). IsParkedFrom honest f (open_state c pending) (closed_state state shelved)) (sym settled.0)
        (record {
          parked = works.parked;
          works = works.works;
          nothing_pending = works.nothing_pending;
          unread_is = works.unread_is;
          gives = λ h. ((works.gives (stays h)).0 ∙ ap Some settled.2.volume_is, (works.gives (stays h)).1);
          room_is = λ h.
              omega (
                arith,
                works.room_is (stays h),
                ap (λ (l : List Change). sum_by frame_size l) settled.1,
                stores.room,
                sum_by-take-le frame_size (pending ++ []) stores.count,
                ap (λ (l : List Change). sum_by frame_size l) (append-nil pending),
              );
        })

    pub advances_after : (shelved : ClosedCartridge D)
        → Advances (buffer_below state) (open_buffer c pending) [] false (open_buffer c' pending')
        → Advances (buffer_below state) (open_buffer c' pending') [] false (closed_buffer shelved)
        → Advances (buffer_below state) (open_buffer c pending) [] false (closed_buffer shelved)
    advances_after shelved first second =
        advances_on (buffer_below state) (medium_moves_on state) (open_buffer c pending)
        (open_buffer c' pending') (closed_buffer shelved) [] [] false first second
