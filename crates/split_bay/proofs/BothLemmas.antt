-- The disks of a medium come back, and go away again.
use Rattle.std.proofs.Common.{◌≡◌, ◌++◌, List, [], map, true, false, not, Bool, None, Some, refl, sym, ◌∙◌, ap, subst, arith}
use Rattle.std.specs.Prelude.{◌&&◌}
use Rattle.std.proofs.lemmas.List.{append-nil}
use Rattle.tape_disk.specs.Disk.{DiskState}
use Rattle.volume_core.specs.Medium.{MediumState, volume_of}
use Rattle.volume_core.specs.declared.changes.Change.{Change}
use Rattle.volume_core.specs.Volume.{AllApply}
use Rattle.vtl_base.specs.Below.{Advances}
use Rattle.tape_buffer.specs.declared.aways.Away.{Away}
use Rattle.tape_buffer.specs.declared.budgets.Budget.{Budget}
use Rattle.tape_buffer.specs.declared.holding.Holding.TheVariants as Holdings
use Rattle.tape_buffer.specs.Aways.{IsCut, IsFoundAs, loose_in, seen_as}
use Rattle.tape_buffer.specs.Moves.{IsHere, MovesUnreported, buffer_below, with_changes}
use Rattle.tape_buffer.specs.State.{BufferState, awake_is_read, state_of}
use Rattle.tape_buffer.specs.Lending.{LendFacts, cut_less}
use Rattle.tape_buffer.specs.Taking.{DisksState}
use Rattle.split_bay.specs.declared.items.Item.{Item}
use Rattle.split_bay.specs.declared.items.Item.TheVariants.{Sent}
use Rattle.split_bay.specs.Backs.{FollowsSpan}
use Rattle.split_bay.specs.Beginnings.{Beginning}
use Rattle.split_bay.specs.Both.{Attaches}
use Rattle.split_bay.specs.Fronts.{LeftIn, OwesAway, span_since}
use Rattle.split_bay.specs.Looks.{Looked}
use Rattle.split_bay.specs.Rings.{ReceivingState, SendingState}
use Rattle.split_bay.specs.Spans.{Span, medium_begun, medium_seen, new_span, span_of, spans_in, volume_seen}
use Rattle.split_bay.specs.Taken.{TakesKnown}
use Rattle.split_bay.proofs.JoinedLemmas.{nothing_waits, spans_behind}
use Rattle.split_bay.proofs.LookLemmas.{looked_same}

module _ {D : Type 0} (state : D → DiskState) where
  module _ (near : SendingState) (old looked new : ReceivingState) (disks disks' : DisksState D)
      (same : looked.received ≡ old.received) (fifo : looked.received ++ looked.waiting ≡ near.sent)
      (changes : spans_in looked.waiting ≡ 0) (takes : TakesKnown state looked disks new disks') where
    -- all that waits is taken
    pub all_taken : new.waiting ≡ []
    all_taken =
        nothing_waits new.waiting (spans_behind looked.waiting (map Sent takes.takes.found) new.waiting
        takes.takes.waiting changes) takes.all

    pub all_waits : looked.waiting ≡ map Sent takes.takes.found
    all_waits =
        takes.takes.waiting ∙ ap (λ (l : List Item). map Sent takes.takes.found ++ l) all_taken
        ∙ append-nil (map Sent takes.takes.found)

    -- what was sent is received
    pub all_received : new.received ≡ near.sent
    all_received =
        takes.takes.received ∙ ap (λ (l : List Item). looked.received ++ l) (sym all_waits) ∙ fifo

    sent_so : near.sent ≡ old.received ++ map Sent takes.takes.found
    sent_so =
        sym fifo ∙ ap (λ (l : List Item). looked.received ++ l) all_waits
        ∙ ap (λ (l : List Item). l ++ map Sent takes.takes.found) same

    pub attaches : (medium medium' : BufferState D) → state_of state medium ≡ medium_seen (span_of near.sent)
        → medium' ≡ disks'.buffer → IsHere disks.buffer.held → FollowsSpan state disks' (span_of new.received)
        → Attaches state near.sent old.received disks medium medium'
    attaches medium medium' seen is here follows =
        let at : medium' ≡ with_changes disks.buffer takes.takes.found = is ∙ takes.takes.pending in
        record {
          waiting = takes.takes.found;
          prefix = sent_so;
          new_is = at;
          looked =
              subst (λ (m : MediumState). Looked m (state_of state medium')) (sym seen)
              (subst (λ (b : BufferState D). Looked (medium_seen (span_of near.sent)) (state_of state b)) (sym is)
              (subst (λ (l : List Item). Looked (medium_seen (span_of l)) (state_of state disks'.buffer))
              all_received follows.looked));
          advances =
              subst (λ (b : BufferState D). (state_of state disks.buffer).failed ≡ false
              → Advances (buffer_below state) disks.buffer takes.takes.found false b) (sym is) takes.takes.advances;
          accepts =
              subst (λ (b : BufferState D). MovesUnreported state disks.buffer takes.takes.found b) (sym is)
              takes.takes.accepts;
          hand = subst (λ (b : BufferState D). IsHere b.held) (sym at) here;
        }

    -- the disks are those of the medium that hosts see
    pub found_so : (seen : MediumState) → seen ≡ medium_seen (span_of near.sent)
        → FollowsSpan state disks' (span_of new.received) → IsFoundAs seen (state_of state disks'.buffer)
    found_so seen same follows =
        let looked = subst (λ (l : List Item). Looked (medium_seen (span_of l)) (state_of state disks'.buffer))
        all_received follows.looked in
        record {
          volume = looked.volume ∙ sym (ap volume_of same);
          awake = looked.awake ∙ sym (ap (λ (m : MediumState). m.awake) same);
        }

module _ {D : Type 0} (state : D → DiskState) where
  -- what a span begins with, over disks that went away
  abbrev pub lent_begins : DisksState D → Budget → Beginning
  lent_begins lent cut = record {
    seen = Some (state_of state lent.buffer);
    left = cut.records;
    bytes = cut.bytes;
    room = cut.room;
  }

  -- a medium that is awake was opened
  pub read_so : (b : BufferState D) → seen_as (state_of state b) ≡ state_of state b
  read_so b = λ i. record (state_of state b) { unread = by (state_of state b).awake (awake_is_read state b) i }
    where
      by : (awake : Bool) → (awake ≡ true → (state_of state b).unread ≡ false)
          → not awake && (state_of state b).unread ≡ (state_of state b).unread
      by true read = sym (read refl)
      by false read = refl

  -- hosts see just the medium
  pub seen_lent : (lent : DisksState D) (cut : Budget)
      → medium_seen (new_span (lent_begins lent cut)) ≡ state_of state lent.buffer
  seen_lent lent cut =
      let medium = state_of state lent.buffer in
      (λ i. record (seen_as medium) { pending = append-nil medium.pending i }) ∙ read_so lent.buffer

  module _ (old : BufferState D) (lent : DisksState D) (cut : Budget)
      (facts : LendFacts (state_of state old) lent.left)
      (same : state_of state lent.buffer ≡ state_of state old) (is : IsCut lent.left cut) where
    abbrev span : Span
    span = new_span (lent_begins lent cut)

    rests : (medium_begun span).awake ≡ false → cut.records ≡ 0
    rests asleep =
        omega (
          arith,
          (cut_less lent.left cut is).0,
          facts.rests (sym (ap (λ (m : MediumState). m.awake) same) ∙ asleep),
        )

    -- the disk's half follows
    pub follows_lent : FollowsSpan state lent span
    follows_lent =
        record {
          there = refl;
          looked =
              subst (λ (m : MediumState). Looked m (state_of state lent.buffer)) (sym (seen_lent lent cut))
              (looked_same (state_of state lent.buffer));
          left =
              record {
                records = omega (arith, (cut_less lent.left cut is).0);
                bytes = omega (arith, (cut_less lent.left cut is).1);
                room = omega (arith, (cut_less lent.left cut is).2);
              };
          rests = rests;
        }

    -- and the medium owes nothing
    pub owes_lent : (away : Away) → away.loose ≡ None → away.left ≡ cut → away.noted ≡ state_of state old
        → OwesAway away span
    owes_lent away loose left seen =
        let passed : loose_in away.loose ≡ [] = ap loose_in loose in
        record {
          there = refl;
          rests =
              λ asleep. (
                rests asleep,
                ap (λ (m : MediumState). m.pending) same
                    ∙ facts.quiet (sym (ap (λ (m : MediumState). m.awake) same) ∙ asleep),
              );
          apply = subst (λ (l : List Change). AllApply (volume_seen span) l) (sym passed) tt;
          seen =
              ap seen_as seen ∙ read_so old ∙ sym same ∙ sym (seen_lent lent cut)
              ∙ (λ i. medium_seen (span_since span (sym passed i)));
          left =
              subst (λ (l : List Change). LeftIn away.left (span_since span l)) (sym passed)
              (subst (λ (b : Budget). LeftIn b (span_since span [])) (sym left)
              (record { records = omega arith; bytes = omega arith; room = omega arith }));
        }
