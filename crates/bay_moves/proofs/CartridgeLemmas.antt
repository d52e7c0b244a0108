-- What was acknowledged of a cartridge in a drive survives.
use Rattle.std.specs.Prelude.{◌≡◌, ◌++◌, List, [], ◌∷◌, Bool, true, false, Option, None, Some, length, refl}
use Rattle.std.proofs.Common.{sym, ◌∙◌, ap, subst}
use Rattle.std.proofs.lemmas.List.{append-nil}
use Rattle.vtl_base.specs.Below.{Below}
use Rattle.tape_disk.specs.Disk.{DiskState, IsDisk}
use Rattle.tape_disk.specs.TwoDisks.{AreHonest, EachOfTwo, TwoDisks, TwoLeave}
use Rattle.scsi_sense.specs.declared.replies.Reply.{Reply}
use Rattle.pr_core.specs.declared.states.PrState.{PrState}
use Rattle.pr_core.specs.Keepers.{KeeperState}
use Rattle.volume_core.specs.declared.changes.Change.{Change}
use Rattle.volume_core.specs.Medium.{turn_met_fault}
use Rattle.cartridge.specs.Contents.{Contents, Start, changes_since}
use Rattle.cartridge.specs.State.{ClosedCartridge, OpenCartridge}
use Rattle.accepted_changes.specs.Core.{CanAcknowledge, Core, IsCore}
use Rattle.accepted_changes.specs.Device.{two_disks}
use Rattle.accepted_changes.specs.Events.{GivesAcknowledged, IsEvent, ShowsCore}
use Rattle.accepted_changes.specs.Laws.{CrashesKeepAcknowledged, StepsKeepCores}
use Rattle.tape_buffer.specs.declared.holding.Holding.{Holding}
use Rattle.tape_buffer.specs.declared.holding.Holding.TheVariants.{Open, Closed, Away}
use Rattle.tape_buffer.specs.Rules.{medium_rules}
use Rattle.tape_buffer.specs.Moves.{HonestOn, MediumMoves, MovesOn, buffer_below, medium_core, medium_moves_nowhere, medium_moves_on, moves_here, seen_here}
use Rattle.tape_buffer.specs.State.{BufferState, core_held, disks_in, found_core, found_in, state_held, state_of, torn_in}
use Rattle.drive_commands.specs.declared.bays.Bay.{Bay}
use Rattle.drive_commands.specs.declared.bays.Bay.TheVariants.{Empty, Unloaded, Loaded}
use Rattle.drive_commands.specs.State.{DriveState, IsBayPositioned, machine_of, medium_in}
use Rattle.drive_commands.specs.Relations.{Made}
use Rattle.drive_commands.specs.Execute.{AdvancesIn, HonestIn, is_device_fault}
use Rattle.drive_commands.specs.Events.{Event, Execute, FlushTurn, Insert, Load, OfDrive, PowerOn, Unload}
use Rattle.drive_commands.specs.Synchronize.{NothingPending}
use Rattle.bay_moves.specs.Cartridges.{IsKnown, KeepsIn, StopsKeepChanges}
use Rattle.bay_moves.specs.Events.{Does, DoesAll}

module _ {D : Type 0} (state : D → DiskState) (is_disk : (disk : D) → (state disk).honest → IsDisk (state disk)) where
  -- from the medium of a drive to the medium there later exactly these changes were accepted
  abbrev pub Moved : Option (BufferState D) → Option (BufferState D) → List Change → Type 0
  Moved (Some old) (Some new) made = MediumMoves state old made new
  Moved None None made = made ≡ []
  Moved _ _ made = ⊥

  pub moved_by : (old new : Option (BufferState D)) (made : List Change) (fault : Bool)
      → AdvancesIn (buffer_below state) old made fault new → Moved old new made
  moved_by (Some old) (Some new) made fault advances = advances.moved
  moved_by None None made fault advances = advances.0
  moved_by None (Some new) made fault advances = absurd advances
  moved_by (Some old) None made fault advances = absurd advances

  pub moved_nowhere : (medium : Option (BufferState D)) → Moved medium medium []
  moved_nowhere None = refl
  moved_nowhere (Some medium) = medium_moves_nowhere state is_disk medium

  pub moved_on : (a b c : Option (BufferState D)) (first second : List Change) → Moved a b first → Moved b c second
      → Moved a c (first ++ second)
  moved_on None None None first second one two = (λ i. one i ++ second) ∙ two
  moved_on None None (Some c) first second one two = absurd two
  moved_on None (Some b) c first second one two = absurd one
  moved_on (Some a) None c first second one two = absurd one
  moved_on (Some a) (Some b) None first second one two = absurd two
  moved_on (Some a) (Some b) (Some c) first second one two = medium_moves_on state a b c first second one two

  pub moved_as : (a b : Option (BufferState D)) (made more : List Change) → more ≡ made → Moved a b made
      → Moved a b more
  moved_as a b made more same moved = subst (λ (l : List Change). Moved a b l) (sym same) moved

  module _ {K : Type 0} (kept : K → KeeperState) (keeps : Below K PrState) where
    pub moved_event : (old new : DriveState (BufferState D) K) (event : Event OfDrive) (reply : Option Reply)
        (made : Made) → Does (state_of state) (buffer_below state) kept keeps old event reply made new
        → Moved (medium_in old.bay) (medium_in new.bay) made.changes
    moved_event old new (Execute request) (Some reply) made (answers, same) =
        moved_as (medium_in old.bay) (medium_in new.bay) answers.taken.made.changes made.changes
        (ap (λ (m : Made). m.changes) same)
        (moved_by (medium_in old.bay) (medium_in new.bay) answers.taken.made.changes (is_device_fault answers.answer)
        answers.taken.advances)
    moved_event old new FlushTurn None made (turn, takes, same) =
        moved_as (medium_in old.bay) (medium_in new.bay) [] made.changes (ap (λ (m : Made). m.changes) same)
        (moved_by (medium_in old.bay) (medium_in new.bay) [] (turn_met_fault turn) takes.advances)
    moved_event old new (Execute request) None made does = absurd does
    moved_event old new FlushTurn (Some reply) made does = absurd does
    moved_event old new (Load medium) reply made does = absurd does
    moved_event old new (Insert medium) reply made does = absurd does
    moved_event old new Unload reply made does = absurd does
    moved_event old new (PowerOn medium keeper) reply made does = absurd does

    moved_all : (old new : DriveState (BufferState D) K) (events : List (Event OfDrive))
        (replies : List (Option Reply)) (made : Made)
        → DoesAll (state_of state) (buffer_below state) kept keeps old events replies made new
        → Moved (medium_in old.bay) (medium_in new.bay) made.changes
    moved_all old new [] [] made (same, is) =
        moved_as (medium_in old.bay) (medium_in new.bay) [] made.changes (ap (λ (m : Made). m.changes) same)
        (subst (λ (d : DriveState (BufferState D) K). Moved (medium_in old.bay) (medium_in d.bay) []) (sym is)
        (moved_nowhere (medium_in old.bay)))
    moved_all old new (event ∷ events) (reply ∷ replies) made (mid, first, rest, one, others, same) =
        moved_as (medium_in old.bay) (medium_in new.bay) (first.changes ++ rest.changes) made.changes
        (ap (λ (m : Made). m.changes) same)
        (moved_on (medium_in old.bay) (medium_in mid.bay) (medium_in new.bay) first.changes rest.changes
        (moved_event old mid event reply first one) (moved_all mid new events replies rest others))
    moved_all old new [] (reply ∷ replies) made does = absurd does
    moved_all old new (event ∷ events) [] made does = absurd does

  -- where nothing is pending, all that was accepted is safe: for an open cartridge, and for one that is not loaded
  safe_open : (c : OpenCartridge D) (pending : List Change) → c.failed ≡ false → pending ≡ []
      → CanAcknowledge (core_held state (Open c) pending)
  safe_open c pending works none = (
    (works, refl),
    ap length
        (sym (ap (λ (l : List Change). changes_since c.contents ++ l) none ∙ append-nil (changes_since c.contents))),
  )

  safe_found : (found : Option Contents) (torn : List Change) → torn ≡ [] → CanAcknowledge (found_core found torn)
  safe_found None torn none = ((refl, refl), refl)
  safe_found (Some contents) torn none = (
    (refl, refl),
    ap length (sym (ap (λ (l : List Change). changes_since contents ++ l) none ∙ append-nil (changes_since contents))),
  )

  -- where it is awake it is open
  safe_loaded : (held : Holding (OpenCartridge D) (ClosedCartridge D)) (pending : List Change)
      → (state_held state held pending).awake ≡ true → (state_held state held pending).failed ≡ false
      → (state_held state held pending).pending ≡ [] → CanAcknowledge (core_held state held pending)
  safe_loaded (Open c) pending awake works none = safe_open c pending works none
  safe_loaded (Closed c) pending awake works none = absurd (cc)
  safe_loaded (Away away) pending awake works none = ((refl, refl), refl)

  -- where it is parked it is closed
  safe_parked : (held : Holding (OpenCartridge D) (ClosedCartridge D)) (pending : List Change)
      → (state_held state held pending).awake ≡ false → (state_held state held pending).torn ≡ []
      → CanAcknowledge (core_held state held pending)
  safe_parked (Open c) pending parked sure = absurd (cc)
  safe_parked (Closed c) pending parked sure = safe_found (found_in state c) (torn_in state c) sure
  safe_parked (Away away) pending parked sure = ((refl, refl), refl)

  module _ {K : Type 0} (kept : K → KeeperState) (honest : Type 0) where
    pub safe_in : (drive : DriveState (BufferState D) K) (bay : Bay (BufferState D)) (medium : BufferState D)
        → drive.bay ≡ bay → medium_in bay ≡ Some medium → honest
        → IsBayPositioned (state_of state) bay drive.position
        → NothingPending honest (machine_of (state_of state) kept (record drive { bay = bay }))
        → CanAcknowledge (medium_core state medium)
    safe_in drive Empty medium same is h on nothing = absurd (cc)
    safe_in drive (Loaded m) medium same is h on nothing =
        let e : m ≡ medium = cc in
        subst (λ (x : BufferState D). CanAcknowledge (medium_core state x)) e
        (safe_loaded m.held m.pending on.awake nothing.0.0 nothing.0.1)
    safe_in drive (Unloaded m) medium same is h on nothing =
        let e : m ≡ medium = cc in
        subst (λ (x : BufferState D). CanAcknowledge (medium_core state x)) e
        (safe_parked m.held m.pending on (nothing.1 h))

  module _ (crash : CrashesKeepAcknowledged medium_rules (two_disks state)) (cores : StepsKeepCores medium_rules) where
    -- what is acknowledged over two disks survives over the next two
    keep_on : (x y z : Option (TwoDisks D)) (first second third : Core Start Change) (made more : List Change)
        (disks : TwoDisks D)
        → x ≡ Some disks → AreHonest state disks → IsCore first → EachOfTwo state disks (ShowsCore medium_rules first)
        → MovesOn state x y first second made → MovesOn state y z second third more → CanAcknowledge second
        → (before : TwoDisks D) × (y ≡ Some before) × (after : TwoDisks D) × (z ≡ Some after)
        × (event : IsEvent medium_rules (two_disks state) before after second third more)
        × TwoLeave state before after (GivesAcknowledged medium_rules second event.steps)
    keep_on None y z first second third made more disks is honest core shows one two safe = absurd (cc)
    keep_on (Some x) None z first second third made more disks is honest core shows one two safe = absurd one
    keep_on (Some x) (Some y) None first second third made more disks is honest core shows one two safe = absurd two
    keep_on (Some x) (Some y) (Some z) first second third made more disks is honest core shows one two safe =
        let same : x ≡ disks = cc in
        let honest_x : AreHonest state x = subst (AreHonest state) (sym same) honest in
        let shows_x =
        subst (λ (d : TwoDisks D). EachOfTwo state d (ShowsCore medium_rules first)) (sym same) shows in
        let goes = one.goes honest_x shows_x in
        let kept = cores first second goes.0.steps core goes.0.leads in
        let found = crash y z second third more (one.keeps.stays_honest honest_x) kept.0 safe goes.1 two in (
          y,
          refl,
          z,
          refl,
          found.0,
          found.1,
        )

    pub keep_media : (a b c : Option (BufferState D)) (medium : BufferState D) (made more : List Change)
        → a ≡ Some medium → IsKnown state medium → Moved a b made → Moved b c more
        → ((left : BufferState D) → b ≡ Some left → CanAcknowledge (medium_core state left))
        → KeepsIn state b c more
    keep_media None b c medium made more is known one two safe = absurd (cc)
    keep_media (Some a) None c medium made more is known one two safe = absurd one
    keep_media (Some a) (Some b) None medium made more is known one two safe = absurd two
    keep_media (Some a) (Some b) (Some c) medium made more is known one two safe =
        let same : a ≡ medium = cc in
        let known_a = subst (IsKnown state) (sym same) known in
        let first = moves_here state a b made (seen_here state a.held known_a.disks known_a.disks_are) one in
        let second = moves_here state b c more first.1 two in
        let found = keep_on (disks_in a.held) (disks_in b.held) (disks_in c.held) (medium_core state a)
        (medium_core state b)
        (medium_core state c) made more known_a.disks known_a.disks_are known_a.honest known_a.core known_a.shows
        first.0 second.0 (safe b refl) in
        record {
          before = found.0;
          disks_before = found.1;
          after = found.2;
          disks_after = found.3;
          all_safe = safe b refl;
          event = found.4;
          moments = found.5;
        }

    module _ {K : Type 0} (kept : K → KeeperState) (keeps : Below K PrState) where
      pub honest_in : (a : Option (BufferState D)) (medium : BufferState D) → a ≡ Some medium → IsKnown state medium
          → HonestIn (buffer_below state) a
      honest_in None medium is known = tt
      honest_in (Some a) medium is known =
          let same : a ≡ medium = cc in
          let known_a = subst (IsKnown state) (sym same) known in
          subst (HonestOn state) (sym known_a.disks_are) known_a.honest

      pub stops_keep_changes : StopsKeepChanges state kept keeps
      stops_keep_changes old acked new medium request reply events replies made at known answers sure told nothing on
          does =
          keep_media (medium_in old.bay) (medium_in acked.bay) (medium_in new.bay) medium answers.taken.made.changes
          made.changes at known
          (moved_by (medium_in old.bay) (medium_in acked.bay) answers.taken.made.changes
          (is_device_fault answers.answer) answers.taken.advances)
          (moved_all kept keeps acked new events replies made does)
          (λ left is. safe_in kept (HonestIn (buffer_below state) (medium_in old.bay)) acked acked.bay left refl is
          (honest_in (medium_in old.bay) medium at known) on nothing)
