-- The core of a cartridge whose disks come back to a drive, and go away again.
use Rattle.std.proofs.Common.{◌≡◌, ◌++◌, List, [], length, map, Bool, true, false, Option, None, Some, refl, sym, ◌∙◌, ap, subst, arith}
use Rattle.std.specs.Prelude.{option_map}
use Rattle.std.proofs.lemmas.List.{append-nil}
use Rattle.vtl_base.specs.Below.{Advances}
use Rattle.tape_disk.specs.Disk.{DiskState, IsDisk}
use Rattle.volume_core.specs.declared.changes.Change.{Change}
use Rattle.volume_core.specs.Medium.{MediumState}
use Rattle.cartridge.specs.Contents.{Start}
use Rattle.cartridge.specs.State.{ClosedCartridge, OpenCartridge}
use Rattle.accepted_changes.specs.Core.{Core}
use Rattle.drive_commands.specs.declared.bays.Bay.{Bay}
use Rattle.drive_commands.specs.declared.bays.Bay.TheVariants.{Empty, Unloaded, Loaded}
use Rattle.drive_commands.specs.State.{medium_in}
use Rattle.tape_buffer.specs.declared.budgets.Budget.{Budget}
use Rattle.tape_buffer.specs.declared.holding.Holding.{Holding}
use Rattle.tape_buffer.specs.declared.holding.Holding.TheVariants.{Open, Closed, Away}
use Rattle.tape_buffer.specs.Aways.{loose_in}
use Rattle.tape_buffer.specs.Moves.{IsHere, MovesOn, as_told, buffer_below, medium_core, moves_here, with_changes}
use Rattle.tape_buffer.specs.State.{BufferState, disks_in, state_of}
use Rattle.tape_buffer.specs.Taking.{DisksState, LendsFrom, LendsHeld}
use Rattle.bay_moves.specs.Elements.{BayState}
use Rattle.split_bay.specs.declared.items.Item.{Item}
use Rattle.split_bay.specs.declared.items.Item.TheVariants.{Begins, Sent}
use Rattle.split_bay.specs.Backs.{KeepsDiskHalf}
use Rattle.split_bay.specs.Both.{AttachesIn, AttachesTo, DetachesIn, DetachesTo}
use Rattle.split_bay.specs.Fronts.{KeepsHostsHalf, OwesHeld, OwesIn}
use Rattle.split_bay.specs.Halves.{Joins, Parts}
use Rattle.split_bay.specs.Rings.{SendingState}
use Rattle.split_bay.specs.Spans.{Span, medium_begun, span_of, span_next}
use Rattle.split_runs.specs.Calls.{HalvesState, KeepsHalves, is_told, whole_medium}
use Rattle.split_runs.specs.Cores.{CoreMovesIn}
use Rattle.tape_buffer.specs.Lending.{cut_less, lend_facts}
use Rattle.split_runs.proofs.AcceptLemmas.{sent_cancel}
use Rattle.split_runs.proofs.CoreLemmas.{IsHereIn, seen_core, tells}

-- a medium that failed is none that did not
pub both_ways : {A : Type 0} (b : Bool) → b ≡ true → b ≡ false → A
both_ways b on off =
    let never : true ≡ false = sym on ∙ off in
    absurd (cc)

module _ {D : Type 0} (state : D → DiskState) where
  -- What is in a drive whose disks came back: these changes waited, and are pending; its disks are at hand.
  pub record CameBack (sent received : List Item) (disks : Option (DisksState D)) (new : Option (BufferState D))
      : Type 0 where
    pub waiting : List Change
    pub prefix : sent ≡ received ++ map Sent waiting
    pub medium : new ≡ option_map (λ (m : DisksState D). with_changes m.buffer waiting) disks
    pub hand : IsHereIn new

  came_to : (sent received : List Item) (disks : Option (DisksState D)) (old new : BufferState D)
      → AttachesTo state sent received disks old new → CameBack sent received disks (Some new)
  came_to sent received None old new attaches = absurd attaches
  came_to sent received (Some d) old new attaches =
      record {
        waiting = attaches.waiting;
        prefix = attaches.prefix;
        medium = ap (λ (m : BufferState D). Some m) attaches.new_is;
        hand = attaches.hand;
      }

  pub came_back : (sent received : List Item) (disks : Option (DisksState D)) (old new : Bay (BufferState D))
      → AttachesIn state sent received disks old new → CameBack sent received disks (medium_in new)
  came_back sent received disks Empty Empty attaches =
      record {
        waiting = [];
        prefix = attaches.1 ∙ sym (append-nil received);
        medium =
            sym (ap
            (λ (d : Option (DisksState D)). option_map (λ (m : DisksState D). with_changes m.buffer []) d)
            attaches.0);
        hand = tt;
      }
  came_back sent received disks (Unloaded old) (Unloaded new) attaches =
      came_to sent received disks old new attaches
  came_back sent received disks (Loaded old) (Loaded new) attaches = came_to sent received disks old new attaches
  came_back sent received disks Empty (Unloaded new) attaches = absurd attaches
  came_back sent received disks Empty (Loaded new) attaches = absurd attaches
  came_back sent received disks (Unloaded old) Empty attaches = absurd attaches
  came_back sent received disks (Unloaded old) (Loaded new) attaches = absurd attaches
  came_back sent received disks (Loaded old) Empty attaches = absurd attaches
  came_back sent received disks (Loaded old) (Unloaded new) attaches = absurd attaches

  -- the disks of a medium went away, as they were
  abbrev pub WentFrom : Option (BufferState D) → Option (DisksState D) → Type 0
  WentFrom None None = Unit {0}
  WentFrom (Some old) (Some new) =
      LendsFrom old new × (state_of state new.buffer ≡ state_of state old)
      × Advances (buffer_below state) old [] false new.buffer
  WentFrom _ _ = ⊥

  went_to : (old : BufferState D) (lent : Option (DisksState D)) (new : BufferState D)
      → DetachesTo state old lent new → WentFrom (Some old) lent
  went_to old None new went = absurd went
  went_to old (Some lent) new went = (went.lends, went.state_is, went.advances)

  pub went_from : (old : Bay (BufferState D)) (lent : Option (DisksState D)) (new : Bay (BufferState D))
      → DetachesIn state old lent new → WentFrom (medium_in old) lent
  went_from Empty lent Empty went = subst (λ (l : Option (DisksState D)). WentFrom None l) (sym went) tt
  went_from (Unloaded old) lent (Unloaded new) went = went_to old lent new went
  went_from (Loaded old) lent (Loaded new) went = went_to old lent new went
  went_from Empty lent (Unloaded new) went = absurd went
  went_from Empty lent (Loaded new) went = absurd went
  went_from (Unloaded old) lent Empty went = absurd went
  went_from (Unloaded old) lent (Loaded new) went = absurd went
  went_from (Loaded old) lent Empty went = absurd went
  went_from (Loaded old) lent (Unloaded new) went = absurd went

  -- disks that went away were at hand, and whoever has them has them
  pub lends_here : (h h' : Holding (OpenCartridge D) (ClosedCartridge D)) (pending : List Change) (left : Budget)
      → LendsHeld h pending h' left → IsHere h × IsHere h'
  lends_here (Open a) (Open b) pending left held = (tt, tt)
  lends_here (Closed a) (Closed b) pending left held = (tt, tt)
  lends_here (Open a) (Closed b) pending left held = absurd held
  lends_here (Open a) (Away b) pending left held = absurd held
  lends_here (Closed a) (Open b) pending left held = absurd held
  lends_here (Closed a) (Away b) pending left held = absurd held
  lends_here (Away a) h' pending left held = absurd held

  -- whether hosts see a medium, if there is one, as it is
  abbrev pub ToldAs : Bool → Option (BufferState D) → Type 0
  ToldAs t None = Unit {0}
  ToldAs t (Some m) = t ≡ (state_of state m).failed

  -- A span that begins as the disks of a medium go away: hosts see it as it is, and of one that failed nothing may be
  -- sent.
  pub record BegunWith (medium : Option (BufferState D)) (span : Span) : Type 0 where
    pub told : ToldAs (medium_begun span).failed medium
    pub spent : (medium_begun span).failed ≡ true → span.begin.left ≡ 0

  begun_to : (old : BufferState D) (lent : Option (DisksState D)) (new : BufferState D) (span : Span)
      → span.since ≡ [] → DetachesTo state old lent new → OwesHeld new.held span → BegunWith (Some old) span
  begun_to old None new span none went owes = absurd went
  begun_to old (Some lent) new span none went owes =
      let is = subst (λ (b : BufferState D). OwesHeld b.held span) went.new_is owes in
      let told : (medium_begun span).failed ≡ (state_of state old).failed =
      sym (ap (λ (m : MediumState). m.failed) is.seen) ∙ ap (λ (m : MediumState). m.failed) went.away_is.noted in
      let sent : length (span.since ++ loose_in went.away.loose) ≡ 0 =
      (λ i. length (none i ++ loose_in (went.away_is.loose i))) in
      record {
        told = told;
        spent = λ failed.
            omega (
              arith,
              is.left.records,
              sent,
              (cut_less lent.left went.away.left went.away_is.cut).0,
              (lend_facts state old lent went.lends).failed (sym told ∙ failed),
            );
      }

  begun_in : (old : Bay (BufferState D)) (lent : Option (DisksState D)) (new : Bay (BufferState D)) (span : Span)
      → span.since ≡ [] → DetachesIn state old lent new → OwesIn new span → BegunWith (medium_in old) span
  begun_in Empty lent Empty span none went owes =
      record { told = tt; spent = λ failed. ap (λ (s : Span). s.begin.left) owes }
  begun_in (Unloaded old) lent (Unloaded new) span none went owes = begun_to old lent new span none went owes
  begun_in (Loaded old) lent (Loaded new) span none went owes = begun_to old lent new span none went owes
  begun_in Empty lent (Unloaded new) span none went owes = absurd went
  begun_in Empty lent (Loaded new) span none went owes = absurd went
  begun_in (Unloaded old) lent Empty span none went owes = absurd went
  begun_in (Unloaded old) lent (Loaded new) span none went owes = absurd went
  begun_in (Loaded old) lent Empty span none went owes = absurd went
  begun_in (Loaded old) lent (Unloaded new) span none went owes = absurd went

  pub begun_parts : (bay : BayState D) (ends : SendingState) (halves : HalvesState D)
      → Parts state bay ends halves.front halves.back
      → BegunWith (medium_in bay.bay) (span_of halves.front.sending.sent)
  begun_parts bay ends halves parts =
      begun_in bay.bay halves.back.medium halves.front.drive.bay (span_of halves.front.sending.sent)
      (ap (λ (l : List Item). (span_of l).since) parts.begins.sent
      ∙ ap (λ (s : Span). s.since) (span_next ends.sent (Begins parts.begins.noted)))
      parts.detaches parts.stands.0

module _ {D : Type 0} (state : D → DiskState) (is_disk : (disk : D) → (state disk).honest → IsDisk (state disk)) where
  -- a drive's disks come back
  pub joined_moves : (halves : HalvesState D) (joined : BayState D) (ends : SendingState) → KeepsHalves state halves
      → Joins state halves.front halves.back joined ends
      → CoreMovesIn state (whole_medium halves) (is_told halves) [] (medium_in joined.bay) true
  joined_moves halves joined ends keeps joins =
      let back = came_back state halves.front.sending.sent halves.back.received halves.back.medium
      halves.front.drive.bay joined.bay joins.attaches in
      let same = sent_cancel halves.back.received halves.waiting back.waiting (sym keeps.ring ∙ back.prefix) in
      let whole_is =
      ap (λ (w : List Change). option_map (λ (m : DisksState D). with_changes m.buffer w) halves.back.medium) same
      ∙ sym back.medium in
      subst (λ (m : Option (BufferState D)). CoreMovesIn state (whole_medium halves) (is_told halves) [] m true)
      whole_is (tells state is_disk (whole_medium halves) (is_told halves))

  pub hand_joined : (halves : HalvesState D) (joined : BayState D) (ends : SendingState)
      → Joins state halves.front halves.back joined ends → IsHereIn (medium_in joined.bay)
  hand_joined halves joined ends joins =
      (came_back state halves.front.sending.sent halves.back.received halves.back.medium halves.front.drive.bay
      joined.bay joins.attaches).hand

  -- a medium whose disks went away, where hosts see it as it is
  went_moves : (old : Option (BufferState D)) (new : Option (DisksState D)) (t : Bool) → WentFrom state old new
      → ToldAs state t old
      → CoreMovesIn state old true [] (option_map (λ (m : DisksState D). with_changes m.buffer []) new) t
  went_moves None None t went is = refl
  went_moves None (Some new) t went is = absurd went
  went_moves (Some old) None t went is = absurd went
  went_moves (Some old) (Some new) t went is =
      let b = new.buffer in
      let here = lends_here state old.held b.held old.pending new.left went.0.held in
      let all : as_told t (medium_core state (with_changes b [])) ≡ as_told t (medium_core state b) =
      ap (λ (l : List Change). as_told t (medium_core state (record b { pending = l }))) (append-nil b.pending) in
      let same : as_told t (medium_core state (with_changes b [])) ≡ medium_core state b =
      all ∙ seen_core state is_disk b t here.1 (is ∙ sym (ap (λ (m : MediumState). m.failed) went.1)) in
      subst
      (λ (core : Core Start Change).
      MovesOn state (disks_in old.held) (disks_in b.held) (medium_core state old) core [])
      (sym same) (moves_here state old b [] here.0 went.2.moved).0

  -- a drive parts into halves
  pub parted_moves : (bay : BayState D) (ends : SendingState) (halves : HalvesState D)
      → Parts state bay ends halves.front halves.back → halves.waiting ≡ []
      → CoreMovesIn state (medium_in bay.bay) true [] (whole_medium halves) (is_told halves)
  parted_moves bay ends halves parts none =
      subst
      (λ (w : List Change).
      CoreMovesIn state (medium_in bay.bay) true []
      (option_map (λ (m : DisksState D). with_changes m.buffer w) halves.back.medium) (is_told halves))
      (sym none)
      (went_moves (medium_in bay.bay) halves.back.medium (is_told halves)
      (went_from state bay.bay halves.back.medium halves.front.drive.bay parts.detaches)
      (begun_parts state bay ends halves parts).told)

  pub parted_keeps : (bay : BayState D) (ends : SendingState) (halves : HalvesState D)
      → Parts state bay ends halves.front halves.back → halves.waiting ≡ []
      → KeepsHostsHalf state halves.front → KeepsDiskHalf state halves.back → KeepsHalves state halves
  parted_keeps bay ends halves parts none front back =
      record {
        front = front;
        back = back;
        ring =
            sym parts.level ∙ sym (append-nil halves.back.received)
            ∙ ap (λ (w : List Change). halves.back.received ++ map Sent w) (sym none);
        spent = (begun_parts state bay ends halves parts).spent;
      }
