-- Both halves of a drive: its disks go away, once they came back.
use Rattle.std.proofs.Common.{◌≡◌, true, false, not, Bool, Option, None, Some, refl, sym, ◌∙◌, ap, subst, inl, inr}
use Rattle.std.specs.Prelude.{◌&&◌}
use Rattle.tape_disk.specs.Disk.{DiskState}
use Rattle.positioning.specs.declared.positions.Pos.{Pos}
use Rattle.volume_core.specs.declared.media.Turn.{Turn}
use Rattle.volume_core.specs.declared.media.Turn.TheVariants.{Device, Idle, Stored}
use Rattle.volume_core.specs.Medium.{MediumState, Turns}
use Rattle.drive_commands.specs.declared.bays.Bay.{Bay}
use Rattle.drive_commands.specs.declared.bays.Bay.TheVariants.{Empty, Unloaded, Loaded}
use Rattle.drive_commands.specs.State.{IsBayPositioned, IsPositioned, Machine, bay_of, has_failed_in, machine_of}
use Rattle.drive_commands.specs.Turn.{TurnsIn, after_turn}
use Rattle.aptpl_store.specs.Kept.{store_kept}
use Rattle.tape_buffer.specs.Aways.{seen_as}
use Rattle.tape_buffer.specs.State.{BufferState, state_of}
use Rattle.tape_buffer.specs.Taking.{DisksState}
use Rattle.bay_moves.specs.Bays.{KeepsBoth}
use Rattle.bay_moves.specs.Elements.{BayState}
use Rattle.split_bay.specs.Backs.{BackState, FollowsIn, KeepsDiskHalf, is_stuck_in}
use Rattle.split_bay.specs.Both.{BeginsNext, DetachesIn, DetachesTo}
use Rattle.split_bay.specs.Fronts.{FrontState, IsFrontOf, KeepsHostsHalf, KeepsOrders, hosts_half}
use Rattle.split_bay.specs.Halves.{HoldsHalves, IsStoredIn, Joins, Parts, ReportsBoth, ReportsFault, SettlesBoth, is_unreported}
use Rattle.split_bay.specs.Looks.{deferred_after}
use Rattle.split_bay.specs.Rings.{SendingState}
use Rattle.split_bay.specs.Spans.{span_of}
use Rattle.split_bay.proofs.BothLemmas.{read_so}
use Rattle.split_bay.proofs.JoiningLemmas.{joined_found, orders_still}

-- a turn leaves nothing pending of what is loaded, or it has failed
stored_so : (bay : Bay MediumState) (old new : Machine) (turn : Turn) → old.bay ≡ bay → TurnsIn bay old turn new
    → IsStoredIn new.bay
stored_so Empty old new turn is turns = subst IsStoredIn (sym (ap (λ (m : Machine). m.bay) turns.1 ∙ is)) tt
stored_so (Unloaded m) old new turn is turns = subst IsStoredIn (sym (ap (λ (m : Machine). m.bay) turns.1 ∙ is)) tt
stored_so (Loaded m) old new turn is turns = by turn turns.1 turns.2 (ap (λ (m : Machine). m.bay) turns.3)
  where
    by : (turn : Turn) (left : MediumState) → Turns m turn left → new.bay ≡ (after_turn turn left old).bay
        → IsStoredIn new.bay
    by Idle left told now = subst IsStoredIn (sym (now ∙ ap Loaded told.1)) told.0
    by (Stored n) left told now = subst IsStoredIn (sym now) (inl told.3)
    by Device left told now = subst IsStoredIn (sym now) (inr told.2.broken)

module _ {D : Type 0} (state : D → DiskState) where
  -- What is in a drive whose disks went away is to hosts what it was. The position is on it still.
  pub record GoneIn (old new : Bay (BufferState D)) : Type 0 where
    pub seen : bay_of (state_of state) new ≡ bay_of (state_of state) old
    pub failed : has_failed_in (state_of state) new ≡ has_failed_in (state_of state) old
    pub on :
        (position : Pos) → IsBayPositioned (state_of state) old position
        → IsBayPositioned (state_of state) new position

  seen_away : (old : BufferState D) (lent : Option (DisksState D)) (new : BufferState D)
      → DetachesTo state old lent new → state_of state new ≡ state_of state old
  seen_away old None new went = absurd went
  seen_away old (Some lent) new went =
      ap (state_of state) went.new_is ∙ ap seen_as went.away_is.noted ∙ read_so state old

  pub gone_in : (old : Bay (BufferState D)) (lent : Option (DisksState D)) (new : Bay (BufferState D))
      → DetachesIn state old lent new → GoneIn old new
  gone_in Empty lent Empty went = record { seen = refl; failed = refl; on = λ position on. on }
  gone_in (Unloaded m) lent (Unloaded n) went =
      let seen = seen_away m lent n went in
      record {
        seen = ap Unloaded seen;
        failed = refl;
        on = λ position on. ap (λ (s : MediumState). s.awake) seen ∙ on;
      }
  gone_in (Loaded m) lent (Loaded n) went =
      let seen = seen_away m lent n went in
      record {
        seen = ap Loaded seen;
        failed = ap (λ (s : MediumState). s.failed) seen;
        on = λ position on. subst (λ (s : MediumState). IsPositioned s position) (sym seen) on;
      }
  gone_in Empty lent (Unloaded n) went = absurd went
  gone_in Empty lent (Loaded n) went = absurd went
  gone_in (Unloaded m) lent Empty went = absurd went
  gone_in (Unloaded m) lent (Loaded n) went = absurd went
  gone_in (Loaded m) lent Empty went = absurd went
  gone_in (Loaded m) lent (Unloaded n) went = absurd went

  module _ (old new : BayState D) (lifted bay : Bay (BufferState D)) (is : lifted ≡ old.bay)
      (new_is : new ≡ record old { bay = bay }) where
    -- the disks of a drive go away
    pub parts_so : (ends sending : SendingState) (back : BackState D) → BeginsNext ends sending
        → DetachesIn state lifted back.medium bay → back.number ≡ sending.number → back.received ≡ sending.sent
        → IsFrontOf bay (span_of sending.sent) → FollowsIn state back.medium (span_of back.received)
        → Parts state old ends (hosts_half new sending) back
    parts_so ends sending back begins detaches number level stands follows =
        let went = subst (λ (b : Bay (BufferState D)). DetachesIn state b back.medium bay) is detaches in
        subst (λ (d : BayState D). Parts state old ends (hosts_half d sending) back) (sym new_is)
        (record {
          begins = begins;
          detaches = went;
          same = refl;
          machine =
              λ i. record (machine_of (state_of state) store_kept old) {
                bay = (gone_in old.bay back.medium bay went).seen i;
              };
          number = number;
          level = level;
          stands = stands;
          follows = follows;
        })

    -- it keeps its reservations
    pub orders_gone : KeepsOrders state old → KeepsOrders state new
    orders_gone keeps =
        orders_still state old new keeps (ap (λ (d : BayState D). d.reservations) new_is)
        (ap (λ (d : BayState D). d.keeper) new_is)

  -- the disks are back, the drive becomes another, and they go away again; of halves as they are inside their types
  pub holds_both : (seen front : FrontState D) (seen_back back : BackState D) (joined left : BayState D)
      (ends : SendingState) (front' : FrontState D) (back' : BackState D) → seen ≡ front → seen_back ≡ back
      → KeepsHostsHalf state front → KeepsDiskHalf state back → Joins state seen seen_back joined ends
      → KeepsBoth state joined → KeepsBoth state left → IsBayPositioned (state_of state) left.bay left.position
      → Parts state left ends front' back' → HoldsHalves state front back joined left front' back'
  holds_both seen front seen_back back joined left ends front' back' is back_is front_keeps back_keeps joins
      joined_keeps keeps positioned parts =
      let same : ends ≡ front.sending = joins.ends_are ∙ ap (λ (f : FrontState D). f.sending) is in
      let joins_so = subst (λ (s : SendingState). Joins state front back joined s) same
      (subst (λ (b : BackState D). Joins state front b joined ends) back_is
      (subst (λ (f : FrontState D). Joins state f seen_back joined ends) is joins)) in
      let found = joined_found state front back joined front.sending joins_so in
      record {
        front_keeps = front_keeps;
        back_keeps = back_keeps;
        joins = joins_so;
        joined_keeps = joined_keeps;
        stood =
            subst (λ (p : Pos). IsBayPositioned (state_of state) joined.bay p)
            (sym (ap (λ (b : BayState D). b.position) joins_so.found))
            (found.on front.drive.position front_keeps.positioned);
        keeps = keeps;
        positioned = positioned;
        parts = subst (λ (s : SendingState). Parts state left s front' back') same parts;
      }

  pub stored_both : (front : FrontState D) (back : BackState D) (turn : Turn) (front' : FrontState D)
      (back' : BackState D) → SettlesBoth state front back turn front' back'
      → IsStoredIn (bay_of (state_of state) front'.drive.bay)
  stored_both front back turn front' back' settles =
      subst IsStoredIn (ap (λ (m : Machine). m.bay) (sym settles.holds.parts.machine))
      (stored_so (bay_of (state_of state) settles.joined.bay) (machine_of (state_of state) store_kept settles.joined)
      (machine_of (state_of state) store_kept settles.settled) turn refl settles.turned.turns)

  -- a fault that was not told is told
  reports_fault : (front front' : FrontState D) (back back' : BackState D) (joined : BayState D)
      → HoldsHalves state front back joined joined front' back' → is_stuck_in state back.medium ≡ true
      → has_failed_in (state_of state) front.drive.bay ≡ false → ReportsFault state front back front' back'
  reports_fault front front' back back' joined holds stuck not_seen =
      let told = (joined_found state front back joined front.sending holds.joins).anew front.drive.position
      holds.front_keeps.positioned stuck (ap not not_seen) in
      record {
        joined = joined;
        holds = holds;
        deferred =
            ap (λ (b : BayState D). b.deferred) holds.parts.same
            ∙ ap (λ (b : BayState D). b.deferred) holds.joins.found
            ∙ ap (λ (b : Bool). deferred_after b front.drive.deferred) told.0;
        failed = (gone_in joined.bay back'.medium front'.drive.bay holds.parts.detaches).failed ∙ told.1;
      }

  -- else it is told
  pub reports_both : (front front' : FrontState D) (back back' : BackState D) (joined : BayState D)
      → HoldsHalves state front back joined joined front' back' → is_stuck_in state back.medium ≡ true
      → has_failed_in (state_of state) front.drive.bay ≡ false
      → ReportsBoth state (is_unreported state front back) front back front' back'
  reports_both front front' back back' joined holds stuck not_seen =
      subst (λ (b : Bool). ReportsBoth state b front back front' back')
      (sym (λ i. stuck i && not (not_seen i)))
      (reports_fault front front' back back' joined holds stuck not_seen)
