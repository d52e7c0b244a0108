-- A drive whose disks are away, and the end of its ring.
use Rattle.std.proofs.Common.{◌≡◌, ◌+◌, ◌++◌, ℕ, List, [], length, Bool, true, false, Some, refl, sym, ◌∙◌, ap, subst, arith, append_assoc, length-append}
use Rattle.std.specs.Prelude.{not, ◌&&◌, is_some}
use Rattle.std.proofs.lemmas.List.{append-nil}
use Rattle.std.proofs.lemmas.List.Sums.{sum_by-append}
use Rattle.vtl_base.specs.Below.{Advances}
use Rattle.tape_disk.specs.Disk.{DiskState}
use Rattle.volume_core.specs.declared.changes.Change.{Change}
use Rattle.volume_core.specs.Medium.{MediumState, block_bytes, frame_size, volume_of}
use Rattle.volume_core.specs.Volume.{AllApply}
use Rattle.cartridge.specs.State.{ClosedCartridge, OpenCartridge}
use Rattle.drive_commands.specs.declared.bays.Bay.{Bay}
use Rattle.drive_commands.specs.declared.bays.Bay.TheVariants.{Empty, Unloaded, Loaded}
use Rattle.drive_commands.specs.Alone.{AnswersAlone}
use Rattle.drive_commands.specs.Events.{Execute}
use Rattle.drive_commands.specs.Execute.{AdvancesIn}
use Rattle.drive_commands.specs.State.{bay_of, medium_in}
use Rattle.drive_commands.specs.Work.{Request}
use Rattle.scsi_sense.specs.declared.replies.Reply.{Reply}
use Rattle.aptpl_store.specs.Kept.{store_below, store_kept}
use Rattle.tape_buffer.specs.declared.aways.Away.{Away}
use Rattle.tape_buffer.specs.declared.budgets.Budget.{Budget}
use Rattle.tape_buffer.specs.declared.holding.Holding.{Holding}
use Rattle.tape_buffer.specs.declared.holding.Holding.TheVariants as Holdings
use Rattle.tape_buffer.specs.Aways.{MovesAway, loose_in, seen_as, seen_with}
use Rattle.tape_buffer.specs.Budgets.{KeepsBudget, budget_after}
use Rattle.tape_buffer.specs.Detaching.{loose_held, passed, passed_held}
use Rattle.tape_buffer.specs.Moves.{IsAway, MovesIn, away_in, buffer_below, takes_alone_in}
use Rattle.tape_buffer.specs.State.{BufferState, state_held, state_of}
use Rattle.bay_moves.specs.Elements.{BayState}
use Rattle.bay_moves.specs.Reservations.{HoldingGoesOn}
use Rattle.split_bay.specs.Fronts.{IsFrontOf, KeepsOrders, LeavesOrders, LeftIn, OwesAway, OwesHeld, OwesIn, loose_in_bay, passed_on, pending_of, span_since}
use Rattle.split_bay.specs.Spans.{Span, medium_begun, medium_seen, volume_seen}

-- what is seen with these changes more
seen_since : (span : Span) (changes : List Change)
    → seen_with (medium_seen span) changes ≡ medium_seen (span_since span changes)
seen_since span changes =
    λ i. record (medium_begun span) {
      pending = append_assoc (medium_begun span).pending span.since changes i;
      unread = not (medium_begun span).awake && (medium_begun span).unread;
    }

since_none : (span : Span) → span_since span [] ≡ span
since_none span = λ i. record { begin = span.begin; since = append-nil span.since i }

-- what may be accepted still is what may be sent still
left_more : (left : Budget) (made : List Change) (span : Span) → LeftIn left span → KeepsBudget left made
    → LeftIn (budget_after left made) (span_since span made)
left_more left made span is within =
    record {
      records = omega (arith, is.records, within.records, length-append span.since made);
      bytes = omega (arith, is.bytes, within.bytes, sum_by-append block_bytes span.since made);
      room = omega (arith, is.room, within.room, sum_by-append frame_size span.since made);
    }

-- what a medium accepts while its disks are away it owes to the ring
owes_more : (old new : Away) (made : List Change) (span : Span) → OwesAway old span → loose_in old.loose ≡ []
    → MovesAway old made new → OwesAway new span × (loose_in new.loose ≡ made)
owes_more old new made span owes none moved =
    let loose : loose_in new.loose ≡ made = moved.loose ∙ ap (λ (l : List Change). l ++ made) none in
    let before : span_since span (loose_in old.loose) ≡ span = ap (span_since span) none ∙ since_none span in
    let seen : seen_as old.noted ≡ medium_seen span = owes.seen ∙ ap medium_seen before in (
      (record {
        there = owes.there;
        rests = owes.rests;
        apply =
            subst (λ (l : List Change). AllApply (volume_seen span) l) (sym loose)
            (subst (λ (m : MediumState). AllApply (volume_of m) made) seen moved.apply);
        seen =
            ap seen_as moved.seen ∙ ap (λ (m : MediumState). seen_with m made) seen ∙ seen_since span made
            ∙ (λ i. medium_seen (span_since span (sym loose i)));
        left =
            subst (λ (l : List Change). LeftIn new.left (span_since span l)) (sym loose)
            (subst (λ (b : Budget). LeftIn b (span_since span made)) (sym moved.left)
            (left_more old.left made span (subst (LeftIn old.left) before owes.left) moved.within));
      }),
      loose,
    )

module _ {D : Type 0} (state : D → DiskState) where
  -- disks that are away stay so
  owes_held : (old new : BufferState D) (made : List Change) (span : Span)
      (x y : Holding (OpenCartridge D) (ClosedCartridge D)) → OwesHeld x span → loose_held x ≡ []
      → MovesIn state (away_in x) (away_in y) old made new → OwesHeld y span × (loose_held y ≡ made)
  owes_held old new made span (Holdings.Away a) (Holdings.Away b) owes none moves =
      owes_more a b made span owes none moves
  owes_held old new made span (Holdings.Away a) (Holdings.Open c) owes none moves = absurd moves
  owes_held old new made span (Holdings.Away a) (Holdings.Closed c) owes none moves = absurd moves
  owes_held old new made span (Holdings.Open c) y owes none moves = absurd owes
  owes_held old new made span (Holdings.Closed c) y owes none moves = absurd owes

  owes_medium : (old new : BufferState D) (made : List Change) (fault : Bool) (span : Span) → OwesHeld old.held span
      → loose_held old.held ≡ [] → Advances (buffer_below state) old made fault new
      → OwesHeld new.held span × (loose_held new.held ≡ made)
  owes_medium old new made fault span owes none advances =
      owes_held old new made span old.held new.held owes none advances.moved

  -- after a command the medium owes to the ring just what it made
  pub owes_after : (old new : Bay (BufferState D)) (made : List Change) (fault : Bool) (span : Span)
      → IsFrontOf old span → AdvancesIn (buffer_below state) (medium_in old) made fault (medium_in new)
      → OwesIn new span × (loose_in_bay new ≡ made)
  owes_after Empty Empty made fault span is advances = (is.0, sym advances.0)
  owes_after Empty (Unloaded new) made fault span is advances = absurd advances
  owes_after Empty (Loaded new) made fault span is advances = absurd advances
  owes_after (Unloaded old) Empty made fault span is advances = absurd advances
  owes_after (Unloaded old) (Unloaded new) made fault span is advances =
      owes_medium old new made fault span is.0 is.1 advances
  owes_after (Unloaded old) (Loaded new) made fault span is advances =
      owes_medium old new made fault span is.0 is.1 advances
  owes_after (Loaded old) Empty made fault span is advances = absurd advances
  owes_after (Loaded old) (Unloaded new) made fault span is advances =
      owes_medium old new made fault span is.0 is.1 advances
  owes_after (Loaded old) (Loaded new) made fault span is advances =
      owes_medium old new made fault span is.0 is.1 advances

module _ {D : Type 0} (state : D → DiskState)
    (goes_on : HoldingGoesOn (state_of state) (buffer_below state) state) (old answered new : BayState D)
    (request : Request) (reply : Reply) (left : List ℕ) (holds : KeepsOrders state old)
    (step :
    AnswersAlone (state_of state) store_kept takes_alone_in (buffer_below state) (store_below state) old request
    (Some reply) answered left)
    (passes : new ≡ passed_on answered) where
  -- a drive that was asked keeps its reservations, also once it passed on what it made
  pub orders_passed : KeepsOrders state new
  orders_passed =
      let kept = (goes_on old answered (Execute request) holds (reply, step.1.step)).0 in
      subst (λ (d : BayState D). KeepsOrders state d) (sym passes)
      (record { sound = kept.sound; saved = kept.saved; at_rest = kept.at_rest; shows = kept.shows })

  -- and at each moment of that its store gives them
  pub moments_passed : LeavesOrders state old request (Some reply) new
  moments_passed =
      subst (λ (d : BayState D). LeavesOrders state old request (Some reply) d) (sym passes)
      (λ honest.
      let moments = (goes_on old answered (Execute request) holds (reply, step.1.step)).1 honest in
      (moments.0, moments.1))

pub away_held : {C S : Type 0} (held : Holding C S) (span : Span) → OwesHeld held span → IsAway held
away_held (Holdings.Away a) span owes = tt
away_held (Holdings.Open c) span owes = absurd owes
away_held (Holdings.Closed c) span owes = absurd owes

pub there_held : {C S : Type 0} (held : Holding C S) (span : Span) → OwesHeld held span
    → is_some span.begin.seen ≡ true
there_held (Holdings.Away a) span owes = owes.there
there_held (Holdings.Open c) span owes = absurd owes
there_held (Holdings.Closed c) span owes = absurd owes

owes_passed : {C S : Type 0} (held : Holding C S) (span : Span) → OwesHeld held span
    → OwesHeld (passed_held held) (span_since span (loose_held held)) × (loose_held (passed_held held) ≡ [])
owes_passed (Holdings.Away a) span owes =
    let next = span_since span (loose_in a.loose) in
    let none = sym (since_none next) in (
      (record {
        there = owes.there;
        rests = owes.rests;
        apply = tt;
        seen = owes.seen ∙ ap medium_seen none;
        left = subst (LeftIn a.left) none owes.left;
      }),
      refl,
    )
owes_passed (Holdings.Open c) span owes = absurd owes
owes_passed (Holdings.Closed c) span owes = absurd owes

-- what is passed on is sent
pub stands_passed : {D : Type 0} (bay : Bay (BufferState D)) (span next : Span) → OwesIn bay span
    → next ≡ span_since span (loose_in_bay bay) → IsFrontOf (bay_of passed bay) next
stands_passed Empty span next owes is = (is ∙ since_none span ∙ owes, refl)
stands_passed (Unloaded medium) span next owes is =
    let left = owes_passed medium.held span owes in
    (subst (λ (s : Span). OwesHeld (passed_held medium.held) s) (sym is) left.0, left.1)
stands_passed (Loaded medium) span next owes is =
    let left = owes_passed medium.held span owes in
    (subst (λ (s : Span). OwesHeld (passed_held medium.held) s) (sym is) left.0, left.1)

-- hosts see just what was sent, where nothing is owed
pub seen_sent : {D : Type 0} (state : D → DiskState) (medium : BufferState D) (span : Span)
    → OwesHeld medium.held span → loose_held medium.held ≡ [] → state_of state medium ≡ medium_seen span
seen_sent state medium span owes none = by medium.held owes none
  where
    by : (held : Holding (OpenCartridge _) (ClosedCartridge _)) → OwesHeld held span → loose_held held ≡ []
        → state_held state held medium.pending ≡ medium_seen span
    by (Holdings.Open c) owes none = absurd owes
    by (Holdings.Closed c) owes none = absurd owes
    by (Holdings.Away a) owes none =
        owes.seen ∙ ap (λ (l : List Change). medium_seen (span_since span l)) none ∙ ap medium_seen (since_none span)

rests_held : {C S : Type 0} (held : Holding C S) (span : Span) → OwesHeld held span → (medium_begun span).awake ≡ false
    → length (medium_begun span).pending + length span.since ≡ 0
rests_held (Holdings.Away a) span owes asleep =
    let rests = owes.rests asleep in
    omega (
      arith,
      owes.left.records,
      rests.0,
      ap (λ (l : List Change). length l) rests.1,
      length-append span.since (loose_in a.loose),
    )
rests_held (Holdings.Open c) span owes asleep = absurd owes
rests_held (Holdings.Closed c) span owes asleep = absurd owes

-- of one that is not awake nothing is pending
pub pending_none : {D : Type 0} (state : D → DiskState) (medium : BufferState D) (span : Span)
    → OwesHeld medium.held span → loose_held medium.held ≡ [] → (state_of state medium).awake ≡ false
    → length (state_of state medium).pending ≡ 0
pending_none state medium span owes none asleep =
    let seen = seen_sent state medium span owes none in
    omega (
      arith,
      ap (λ (m : MediumState). length m.pending) seen,
      length-append (medium_begun span).pending span.since,
      rests_held medium.held span owes (sym (ap (λ (m : MediumState). m.awake) seen) ∙ asleep),
    )

pub pending_in : {D : Type 0} (state : D → DiskState) (bay : Bay (BufferState D)) (medium : BufferState D) (span : Span)
    → IsFrontOf bay span → Some medium ≡ medium_in bay → (state_of state medium).awake ≡ false
    → 0 ≡ pending_of state (medium_in bay)
pending_in state Empty medium span is there asleep = refl
pending_in state (Unloaded m) medium span is there asleep =
    let same : m ≡ medium = cc in
    sym (pending_none state m span is.0 is.1 (ap (λ (b : BufferState _). (state_of state b).awake) same ∙ asleep))
pending_in state (Loaded m) medium span is there asleep =
    let same : m ≡ medium = cc in
    sym (pending_none state m span is.0 is.1 (ap (λ (b : BufferState _). (state_of state b).awake) same ∙ asleep))
