-- The disks of what is in a drive come back.
use Rattle.std.proofs.Common.{◌≡◌, List, true, false, not, Bool, Option, None, Some, sym, ◌∙◌, ap, subst}
use Rattle.std.specs.Prelude.{◌&&◌}
use Rattle.tape_disk.specs.Disk.{DiskState}
use Rattle.positioning.specs.declared.positions.Pos.{Pos}
use Rattle.positioning.specs.Motion.{IsOnTape}
use Rattle.volume_core.specs.Volume.{Part}
use Rattle.drive_commands.specs.declared.bays.Bay.{Bay}
use Rattle.drive_commands.specs.declared.bays.Bay.TheVariants.{Empty, Unloaded, Loaded}
use Rattle.drive_commands.specs.State.{IsAtHand, IsBayPositioned, bay_of, has_failed_in, machine_of, medium_in}
use Rattle.aptpl_store.specs.Kept.{store_kept}
use Rattle.tape_buffer.specs.Moves.{IsHere, buffer_below}
use Rattle.tape_buffer.specs.State.{BufferState, state_of}
use Rattle.tape_buffer.specs.Taking.{DisksState}
use Rattle.bay_moves.specs.Bays.{KeepsBoth, KeepsCartridgeIn, ShowsCartridgeIn}
use Rattle.bay_moves.specs.Elements.{BayState}
use Rattle.bay_moves.specs.Reservations.{IsHolding}
use Rattle.split_bay.specs.declared.items.Item.{Item}
use Rattle.split_bay.specs.Backs.{BackState, is_stuck_in}
use Rattle.split_bay.specs.Both.{Attaches, AttachesIn}
use Rattle.split_bay.specs.Fronts.{FrontState, KeepsOrders}
use Rattle.split_bay.specs.Halves.{Joins}
use Rattle.split_bay.specs.Looks.{LookedIn, deferred_after, fails_anew, is_broken}
use Rattle.split_bay.specs.Rings.{SendingState}
use Rattle.split_bay.proofs.TakenLemmas.{still}

both_true : (a b : Bool) → a && b ≡ true → b ≡ true
both_true true b both = both
both_true false b both = absurd (cc)

-- the disks of what is in a drive are at hand
abbrev pub HereBay : {D : Type 0} → Bay (BufferState D) → Type 0
HereBay bay = IsAtHand (λ m. IsHere m.held) bay

-- what the type of a bay keeps says so
pub kept_bay : {D : Type 0} (state : D → DiskState) (bay : Bay (BufferState D))
    → KeepsCartridgeIn state (medium_in bay) → HereBay bay
kept_bay state Empty keeps = tt
kept_bay state (Unloaded m) keeps = keeps.hand
kept_bay state (Loaded m) keeps = keeps.hand

module _ {D : Type 0} (state : D → DiskState) where
  -- What is in a drive whose disks are back. The position is on it still, and a fault that hosts did not see is new.
  pub record FoundIn (disks : Option (DisksState D)) (old new : Bay (BufferState D)) : Type 0 where
    pub looked : LookedIn (bay_of (state_of state) old) (bay_of (state_of state) new)
    pub hand : HereBay new
    pub on :
        (position : Pos) → IsBayPositioned (state_of state) old position
        → IsBayPositioned (state_of state) new position
    pub anew :
        (position : Pos) → IsBayPositioned (state_of state) old position → is_stuck_in state disks ≡ true
        → not (has_failed_in (state_of state) old) ≡ true
        → (fails_anew (bay_of (state_of state) old) (bay_of (state_of state) new) ≡ true)
        × (has_failed_in (state_of state) new ≡ true)

  -- pending changes do not show whether a medium is broken
  broken_with : (sent received : List Item) (disks : DisksState D) (old new : BufferState D)
      → Attaches state sent received disks old new → is_broken (state_of state disks.buffer) ≡ true
      → is_broken (state_of state new) ≡ true
  broken_with sent received disks old new a stuck =
      ap (λ (b : BufferState D). is_broken (state_of state b)) a.new_is
      ∙ (λ i. (still state disks.buffer a.waiting).0 i && (still state disks.buffer a.waiting).1 i) ∙ stuck

  pub found_in : (sent received : List Item) (disks : Option (DisksState D)) (old new : Bay (BufferState D))
      → AttachesIn state sent received disks old new → FoundIn disks old new
  found_in sent received disks Empty Empty a =
      record {
        looked = tt;
        hand = tt;
        on = λ position on. tt;
        anew =
            λ position on stuck not_seen.
            let never : false ≡ true = sym (ap (is_stuck_in state) a.0) ∙ stuck in
            absurd (cc);
      }
  found_in sent received (Some d) (Unloaded m) (Unloaded n) a =
      record {
        looked = a.looked;
        hand = a.hand;
        on = λ position on. a.looked.awake ∙ on;
        anew =
            λ position on stuck not_seen.
            let broken = broken_with sent received d m n a stuck in
            let asleep = a.looked.awake ∙ on in
            let never : false ≡ true = sym (ap (λ (b : Bool). b && (state_of state n).failed) asleep) ∙ broken in
            absurd (cc);
      }
  found_in sent received (Some d) (Loaded m) (Loaded n) a =
      record {
        looked = a.looked;
        hand = a.hand;
        on =
            λ position on.
            record {
              awake = a.looked.awake ∙ on.awake;
              on_tape = subst (λ (v : List Part). IsOnTape v position) (sym a.looked.volume) on.on_tape;
            };
        anew =
            λ position on stuck not_seen.
            let broken = broken_with sent received d m n a stuck in
            (λ i. broken i && not_seen i, both_true (state_of state n).awake (state_of state n).failed broken);
      }
  found_in sent received None (Unloaded m) (Unloaded n) a = absurd a
  found_in sent received None (Loaded m) (Loaded n) a = absurd a
  found_in sent received disks Empty (Unloaded n) a = absurd a
  found_in sent received disks Empty (Loaded n) a = absurd a
  found_in sent received disks (Unloaded m) Empty a = absurd a
  found_in sent received disks (Unloaded m) (Loaded n) a = absurd a
  found_in sent received disks (Loaded m) Empty a = absurd a
  found_in sent received disks (Loaded m) (Unloaded n) a = absurd a

  -- the disks are back in a drive, and a fault that was not told is deferred
  pub joins_so : (front : FrontState D) (back : BackState D) (lifted bay : Bay (BufferState D)) (told : Bool)
      (new : BayState D) (sending : SendingState) → lifted ≡ front.drive.bay
      → AttachesIn state front.sending.sent back.received back.medium lifted bay
      → told ≡ fails_anew (bay_of (state_of state) lifted) (bay_of (state_of state) bay)
      → new ≡ record front.drive { bay = bay; deferred = deferred_after told front.drive.deferred }
      → sending ≡ front.sending → Joins state front back new sending
  joins_so front back lifted bay told new sending is attaches told_is new_is ends =
      let attached = subst (λ (b : Bay (BufferState D)).
      AttachesIn state front.sending.sent back.received back.medium b bay) is attaches in
      let found : record front.drive { bay = bay; deferred = deferred_after told front.drive.deferred }
      ≡ record front.drive {
        bay = bay;
        deferred =
            deferred_after (fails_anew (bay_of (state_of state) front.drive.bay) (bay_of (state_of state) bay))
            front.drive.deferred;
      } = λ i. record front.drive {
        bay = bay;
        deferred =
            deferred_after
            ((told_is ∙ ap (λ (b : Bay (BufferState D)). fails_anew (bay_of (state_of state) b)
            (bay_of (state_of state) bay)) is) i) front.drive.deferred;
      } in
      subst (λ (d : BayState D). Joins state front back d sending) (sym new_is)
      (record {
        ends_are = ends;
        attaches = attached;
        found = found;
        looks =
            record {
              bay = (found_in front.sending.sent back.received back.medium front.drive.bay bay attached).looked;
              others = ap (machine_of (state_of state) store_kept) found;
            };
      })

  -- the halves that were joined
  pub joined_found : (front : FrontState D) (back : BackState D) (joined : BayState D)
      (sending : SendingState) → Joins state front back joined sending
      → FoundIn back.medium front.drive.bay joined.bay
  joined_found front back joined sending joins =
      found_in front.sending.sent back.received back.medium front.drive.bay joined.bay joins.attaches

  -- what is known of the reservations does not speak of the medium
  pub orders_still : (old new : BayState D) → KeepsOrders state old → new.reservations ≡ old.reservations
      → new.keeper ≡ old.keeper → KeepsOrders state new
  orders_still old new keeps orders keeper =
      subst (λ (b : BayState D). IsHolding (state_of state) (buffer_below state) state b)
      (λ i. record new { reservations = sym orders i; keeper = sym keeper i })
      (record { sound = keeps.sound; saved = keeps.saved; at_rest = keeps.at_rest; shows = keeps.shows })

  -- what is known of a cartridge whose disks are at hand is the invariant of a bay's type
  keeps_here : (bay : Bay (BufferState D)) → HereBay bay → ShowsCartridgeIn state (medium_in bay)
      → KeepsCartridgeIn state (medium_in bay)
  keeps_here Empty here shows = tt
  keeps_here (Unloaded m) here shows =
      record { hand = here; core = shows.core; whole = shows.whole; shows = shows.shows }
  keeps_here (Loaded m) here shows =
      record { hand = here; core = shows.core; whole = shows.whole; shows = shows.shows }

  pub keeps_joined : (front : FrontState D) (back : BackState D) (joined : BayState D) (sending : SendingState)
      → Joins state front back joined sending → KeepsOrders state front.drive
      → ShowsCartridgeIn state (medium_in joined.bay) → KeepsBoth state joined
  keeps_joined front back joined sending joins orders shows =
      record {
        cartridge = keeps_here joined.bay (joined_found front back joined sending joins).hand shows;
        reservations =
            orders_still front.drive joined orders (ap (λ (d : BayState D). d.reservations) joins.found)
            (ap (λ (d : BayState D). d.keeper) joins.found);
      }
