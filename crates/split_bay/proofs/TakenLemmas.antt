-- A change that waits is taken.
use Rattle.std.proofs.Common.{◌≡◌, ◌++◌, List, [], ◌∷◌, map, true, false, None, Some, refl, sym, ◌∙◌, ap, subst, arith, length-append, append_assoc}
use Rattle.std.proofs.lemmas.List.{append-nil, map-append}
use Rattle.std.proofs.lemmas.List.Sums.{sum_by-append}
use Rattle.vtl_base.specs.Below.{Advances, advances_on}
use Rattle.tape_disk.specs.Disk.{DiskState}
use Rattle.volume_core.specs.declared.changes.Change.{Change}
use Rattle.volume_core.specs.Medium.{Turns, block_bytes, frame_size, turn_met_fault, volume_of, volume_or_empty}
use Rattle.volume_core.specs.Stores.{Stores, after_append}
use Rattle.volume_core.specs.declared.media.Turn.{Turn}
use Rattle.tape_buffer.specs.Frames.{IsOneFrameIn, frames_in}
use mathlib.Core.List.{IsPrefix}
use Rattle.volume_core.specs.Volume.{Part, refusal_of}
use Rattle.cartridge.specs.State.{ClosedCartridge, OpenCartridge}
use Rattle.tape_buffer.specs.declared.budgets.Budget.{Budget}
use Rattle.tape_buffer.specs.declared.holding.Holding.{Holding}
use Rattle.tape_buffer.specs.declared.holding.Holding.TheVariants.{Open, Closed, Away}
use Rattle.tape_buffer.specs.Moves.{MovesUnreported, StoresBehind, buffer_below, medium_moves_on, unreported_moves_on, with_changes}
use Rattle.tape_buffer.specs.State.{BufferState, awake_is_read, state_held, state_of}
use Rattle.tape_buffer.specs.Budgets.{KeepsBudget, budget_after}
use Rattle.tape_buffer.specs.Taking.{DisksState}
use Rattle.split_bay.specs.declared.items.Item.{Item}
use Rattle.split_bay.specs.declared.items.Item.TheVariants.{Sent}
use Rattle.split_bay.specs.Backs.{FollowsSpan, LeavesBudget, TurnsBack, disks_half}
use Rattle.split_bay.specs.Rings.{ReceivingState}
use Rattle.split_bay.specs.Spans.{KeepsLimits, Span, medium_begun, medium_seen, span_with, volume_seen, apply_rest}
use Rattle.split_bay.specs.Taken.{TakesKnown, TakesWaiting}
use Rattle.split_bay.proofs.LookLemmas.{looked_next, looked_turn, turned, with_more}

module _ (span : Span) (change : Change) (within : KeepsLimits (span_with span (Sent change))) where
  -- it keeps what is left
  pub keeps_next : (budget : Budget) → LeavesBudget span budget → KeepsBudget budget (change ∷ [])
  keeps_next budget leaves =
      record {
        records = omega (arith, leaves.records, within.few, length-append span.since (change ∷ []));
        bytes = omega (arith, leaves.bytes, within.short, sum_by-append block_bytes span.since (change ∷ []));
        room = omega (arith, leaves.room, within.fits, sum_by-append frame_size span.since (change ∷ []));
      }

  -- and leaves the rest
  pub leaves_next : (budget : Budget) → LeavesBudget span budget
      → LeavesBudget (span_with span (Sent change)) (budget_after budget (change ∷ []))
  leaves_next budget leaves =
      record {
        records = omega (arith, leaves.records, within.few, length-append span.since (change ∷ []));
        bytes = omega (arith, leaves.bytes, within.short, sum_by-append block_bytes span.since (change ∷ []));
        room = omega (arith, leaves.room, within.fits, sum_by-append frame_size span.since (change ∷ []));
      }

  -- it applies to what is seen
  pub applies_next : refusal_of (volume_seen span) change ≡ None
  applies_next =
      subst (λ (v : List Part). refusal_of v change ≡ None)
      (sym (after_append (volume_or_empty (medium_begun span).stored) (medium_begun span).pending span.since))
      (apply_rest (volume_of (medium_begun span)) span.since (change ∷ []) within.apply).0

module _ {D : Type 0} (state : D → DiskState) where
  -- the medium follows, once a change more is received and taken
  pub follows_next : (span : Span) (change : Change) (old new : DisksState D)
      → KeepsLimits (span_with span (Sent change)) → FollowsSpan state old span
      → new ≡ record { buffer = with_changes old.buffer (change ∷ []); left = budget_after old.left (change ∷ []) }
      → state_of state new.buffer ≡ with_more (state_of state old.buffer) change
      → FollowsSpan state new (span_with span (Sent change))
  follows_next span change old new within follows is more =
      record {
        there = follows.there;
        looked =
            looked_next span change (state_of state old.buffer) (state_of state new.buffer) follows.looked more;
        left =
            subst (λ (l : DisksState D). LeavesBudget (span_with span (Sent change)) l.left) (sym is)
            (leaves_next span change within old.left follows.left);
        rests = follows.rests;
      }

  -- nothing is taken yet
  pub takes_none : (receiving : ReceivingState) (medium : DisksState D)
      → Advances (buffer_below state) medium.buffer [] false medium.buffer
      → MovesUnreported state medium.buffer [] medium.buffer → TakesWaiting state receiving medium receiving medium
  takes_none receiving medium nowhere quiet =
      record {
        found = [];
        number = refl;
        received = sym (append-nil receiving.received);
        waiting = refl;
        pending = λ i. record medium.buffer { pending = sym (append-nil medium.buffer.pending) i };
        advances = λ works. nowhere;
        accepts = quiet;
      }

  -- one more is taken
  pub takes_more : (old mid new : ReceivingState) (medium medium' medium'' : DisksState D) (change : Change)
      → TakesWaiting state old medium mid medium' → new.number ≡ mid.number
      → new.received ≡ mid.received ++ Sent change ∷ [] → mid.waiting ≡ Sent change ∷ new.waiting
      → medium''.buffer ≡ with_changes medium'.buffer (change ∷ [])
      → (state_of state medium'.buffer).failed ≡ (state_of state medium.buffer).failed
      → ((state_of state medium'.buffer).failed ≡ false
      → Advances (buffer_below state) medium'.buffer (change ∷ []) false medium''.buffer)
      → MovesUnreported state medium'.buffer (change ∷ []) medium''.buffer → TakesWaiting state old medium new medium''
  takes_more old mid new medium medium' medium'' change takes number received waiting is failed advances accepts =
      record {
        found = takes.found ++ change ∷ [];
        number = number ∙ takes.number;
        received =
            received ∙ ap (λ (l : List Item). l ++ Sent change ∷ []) takes.received
            ∙ append_assoc old.received (map Sent takes.found) (Sent change ∷ [])
            ∙ ap (λ (l : List Item). old.received ++ l) (sym (map-append Sent takes.found (change ∷ [])));
        waiting =
            takes.waiting ∙ ap (λ (l : List Item). map Sent takes.found ++ l) waiting
            ∙ sym (append_assoc (map Sent takes.found) (Sent change ∷ []) new.waiting)
            ∙ ap (λ (l : List Item). l ++ new.waiting) (sym (map-append Sent takes.found (change ∷ [])));
        pending =
            is ∙ ap (λ (b : BufferState D). with_changes b (change ∷ [])) takes.pending
            ∙ (λ i. record medium.buffer {
              pending = append_assoc medium.buffer.pending takes.found (change ∷ []) i;
            });
        advances =
            λ works. advances_on (buffer_below state) (medium_moves_on state) medium.buffer medium'.buffer
            medium''.buffer takes.found (change ∷ []) false (takes.advances works) (advances (failed ∙ works));
        accepts =
            unreported_moves_on state medium.buffer medium'.buffer medium''.buffer takes.found (change ∷ [])
            takes.accepts accepts;
      }

  -- what is pending does not say whether it is awake, nor whether the device has failed
  pub still : (buffer : BufferState D) (changes : List Change)
      → ((state_of state (with_changes buffer changes)).awake ≡ (state_of state buffer).awake)
      × ((state_of state (with_changes buffer changes)).failed ≡ (state_of state buffer).failed)
  still buffer changes = by buffer.held
    where
      by : (held : Holding (OpenCartridge D) (ClosedCartridge D))
          → ((state_held state held (buffer.pending ++ changes)).awake ≡ (state_held state held buffer.pending).awake)
          × ((state_held state held (buffer.pending ++ changes)).failed
          ≡ (state_held state held buffer.pending).failed)
      by (Open cartridge) = (refl, refl)
      by (Closed cartridge) = (refl, refl)
      by (Away away) = (refl, refl)

  -- the medium follows, through a turn
  pub follows_turn : (span : Span) (old new : DisksState D) (turn : Turn) → FollowsSpan state old span
      → (state_of state old.buffer).awake ≡ true → Turns (state_of state old.buffer) turn (state_of state new.buffer)
      → Stores (state_of state old.buffer) [] (state_of state new.buffer) → new.left ≡ old.left
      → FollowsSpan state new span
  follows_turn span old new turn follows awake turns stores left =
      record {
        there = follows.there;
        looked =
            looked_turn (medium_seen span) (state_of state old.buffer) turn (state_of state new.buffer) follows.looked
            awake turns stores (awake_is_read state old.buffer awake)
            (awake_is_read state new.buffer
            (turned (state_of state old.buffer) turn (state_of state new.buffer) awake turns).awake);
        left = subst (LeavesBudget span) (sym left) follows.left;
        rests = follows.rests;
      }

  -- what a turn does
  pub turns_back : (old looked new : ReceivingState) (medium taken medium' : DisksState D) (turn : Turn)
      → looked ≡ record old { waiting = looked.waiting } → IsPrefix old.waiting looked.waiting
      → TakesKnown state looked medium new taken → (state_of state medium.buffer).failed ≡ false
      → Turns (state_of state taken.buffer) turn (state_of state medium'.buffer)
      → IsOneFrameIn turn (frames_in taken.buffer) taken.buffer.pending (frames_in medium'.buffer)
      → Stores (state_of state taken.buffer) [] (state_of state medium'.buffer)
      → Advances (buffer_below state) taken.buffer [] (turn_met_fault turn) medium'.buffer
      → StoresBehind state taken.buffer medium'.buffer
      → TurnsBack state true (disks_half old (Some medium)) turn (disks_half new (Some medium'))
  turns_back old looked new medium taken medium' turn same more takes works answer frame stores advances behind =
      let some = takes.takes in
      let found = some.found in
      let told = subst (λ (b : BufferState D).
      Turns (state_of state b) turn (state_of state medium'.buffer)
      × IsOneFrameIn turn (frames_in b) b.pending (frames_in medium'.buffer)
      × Stores (state_of state b) [] (state_of state medium'.buffer) × StoresBehind state b medium'.buffer)
      some.pending (answer, frame, stores, behind) in (
        looked.waiting,
        more,
        record {
          found = found;
          number = some.number ∙ ap (λ (r : ReceivingState). r.number) same;
          received =
              some.received
              ∙ ap (λ (l : List Item). l ++ map Sent found) (ap (λ (r : ReceivingState). r.received) same);
          waiting = some.waiting;
          all = takes.all;
          stores =
              record {
                answer = told.0;
                frame = told.1;
                stores = told.2;
                advances =
                    subst
                    (λ (l : List Change).
                    Advances (buffer_below state) medium.buffer l (turn_met_fault turn) medium'.buffer)
                    (append-nil found)
                    (advances_on (buffer_below state) (medium_moves_on state) medium.buffer taken.buffer
                    medium'.buffer found [] (turn_met_fault turn) (some.advances works) advances);
                behind = told.3;
              };
        },
      )
