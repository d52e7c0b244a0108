-- A closed cartridge that is not opened stays closed, and what its side gives stays; one that was not opened before and
-- whose device failed may give something else.
use Rattle.std.specs.Prelude.{◌≡◌, ◌≢◌, ◌+◌, ◌++◌, ℕ, List, [], Bool, true, false, not, Option, None, Some, Err, length, option_map, if◌then◌else◌, refl}
use Rattle.std.proofs.Common.{sym, ◌∙◌, ap, subst, arith, ⊎_elim}
use Rattle.std.proofs.lemmas.List.{append-nil, take_at, take_all}
use Rattle.vtl_base.specs.Below.{Advances}
use Rattle.tape_disk.specs.Disk.{DiskState, IsDisk}
use Rattle.tape_disk.specs.TwoDisks.{AreHonest, EachOfTwo, Images, KeepsDisks, MayLeave, TwoDisks, TwoLeave, two_hold_now, seen_of_two}
use Rattle.volume_core.specs.declared.changes.Change.{Change}
use Rattle.volume_core.specs.declared.media.MediumError.TheVariants as Media
use Rattle.volume_core.specs.Medium.{IsParked, StaysParked, WakesFrom, met_fault}
use Rattle.cartridge.specs.declared.error.CartridgeError.{CartridgeError}
use Rattle.cartridge.specs.declared.error.CartridgeError.TheVariants.{NotOurs, Damaged, BadRecord, SideFull, Device, Failed, NoMemory}
use Rattle.cartridge.specs.Answers.{IsNotOpened}
use Rattle.cartridge.specs.Contents.{Contents, GivesContents, IsBadFrameAt, IsDamagedPairAt, IsNoCartridge, ShowsContents, Start, changes_of, changes_since, start_of, volume_made, with_frames}
use Rattle.cartridge.specs.Disks.{NoneOfTwo, OnlyOfTwo}
use Rattle.cartridge.specs.ContentsOn.{contents_on, contents_on_is, contents_on_none}
use Rattle.cartridge.specs.State.{ClosedCartridge}
use Rattle.accepted_changes.specs.Core.{Core}
use Rattle.accepted_changes.specs.Device.{two_disks, two_is_device, two_keep, two_rest}
use Rattle.accepted_changes.specs.Events.{CoreMoves, ShowsCore}
use Rattle.accepted_changes.specs.Kinds.{moves_resting}
use Rattle.tape_buffer.specs.Inner.Waking.{wake_error_of}
use Rattle.tape_buffer.specs.Moves.{buffer_below}
use Rattle.tape_buffer.specs.Rules.{GivesChanges, medium_rules}
use Rattle.tape_buffer.specs.State.{IsSettledOn, closed_buffer, closed_state, found_core, found_in, no_start, room_found, torn_in}
use Rattle.tape_buffer.proofs.TwoLemmas.{are_disks, none_failed, one_failed, read_now, stay_honest, were_honest}

-- what gives contents has no cause to be refused
pub record HasNoCause : Type 0 where
  pub ours : (images : Images) (contents : Contents) → GivesContents contents images → IsNoCartridge images → ⊥
  pub whole : (images : Images) (contents : Contents) (at : ℕ) →
      GivesContents contents images → IsDamagedPairAt images at → ⊥
  pub bad : (images : Images) (contents : Contents) (at : ℕ) →
      GivesContents contents images → IsBadFrameAt images at → ⊥

-- no pair of images is a cartridge's that begins from what none does
gives_nothing : (changes : List Change) (images : Images) → GivesChanges no_start changes images → ⊥
gives_nothing changes images given =
    let is = sym given.1.0.kind ∙ ap (λ (start : Start). start.heading.kind) given.2 in absurd (cc)

-- what gives the changes that were found has their core
same_changes : (contents : Contents) (images : Images)
    → GivesChanges (start_of contents) (changes_since contents) images
    → found_core (contents_on images) [] ≡ found_core (Some contents) []
same_changes contents images given =
    ap (λ (f : Option Contents). found_core f []) (contents_on_is images given.0 given.1)
    ∙ (λ i. record {
      base = given.2 i;
      accepted = given.3 i ++ [];
      stored = length (given.3 i) + 0;
      safe = length (given.3 i);
      fault = false;
      stuck = false;
      recovering = true;
    })

-- images that show the core of what was found have that core
found_again : (found : Option Contents) (image : Images) → ShowsCore medium_rules (found_core found []) image
    → found_core (contents_on image) [] ≡ found_core found []
found_again None image shows = absurd (⊎_elim (gives_nothing [] image) (gives_nothing [] image) shows)
found_again (Some contents) image shows =
    same_changes contents image
    (⊎_elim
    (λ g. subst (λ (l : List Change). GivesChanges (start_of contents) l image)
    (take_at (changes_since contents) [] (length (changes_since contents)) refl) g)
    (λ g. subst (λ (l : List Change). GivesChanges (start_of contents) l image)
    (take_all (length (changes_since contents) + 0) (changes_since contents ++ [])
    (omega (arith, ap length (append-nil (changes_since contents)))) ∙ append-nil (changes_since contents)) g) shows)

module _ {D : Type 0} (state : D → DiskState) (is_disk : (disk : D) → (state disk).honest → IsDisk (state disk))
    (old : ClosedCartridge D) (disks : TwoDisks D) (keeps : KeepsDisks state old.disks disks)
    (moments : AreHonest state old.disks → TwoLeave state old.disks disks (MayLeave state old.disks)) where
  abbrev new_closed : ClosedCartridge D
  new_closed = record old { disks = disks }

  -- a crash now leaves what it might have left before
  images : AreHonest state old.disks → EachOfTwo state disks (MayLeave state old.disks)
  images honest =
      two_hold_now state old.disks disks (MayLeave state old.disks)
      (are_disks state is_disk disks (stay_honest state old.disks disks keeps honest)) (moments honest)

  -- a read gives what it might have given after a crash before
  read_image : AreHonest state old.disks → MayLeave state old.disks (seen_of_two state disks)
  read_image honest =
      images honest (seen_of_two state disks)
      (read_now state is_disk disks (stay_honest state old.disks disks keeps honest))

  module _ (H : Type 0) (same_seen : H → old.known ≡ false → seen_of_two state disks ≡ seen_of_two state old.disks)
    where
      same_found : H → found_in state new_closed ≡ found_in state old
      same_found here = by old.known refl
        where
          by : (k : Bool) → old.known ≡ k → found_in state new_closed ≡ found_in state old
          by true is =
              ap (λ (k : Bool). if k then Some old.contents else contents_on (seen_of_two state disks)) is
              ∙ ap (λ (k : Bool). if k then Some old.contents else contents_on (seen_of_two state old.disks)) (sym is)
          by false is =
              ap (λ (s : Images). if old.known then Some old.contents else contents_on s) (same_seen here is)

      still_parked : IsParked H (closed_state state old).stored (closed_state state old).torn
          (closed_state state old).room [] (closed_state state old).unread (closed_state state new_closed)
      still_parked =
          record {
            parked = refl;
            works = refl;
            nothing_pending = refl;
            unread_is = refl;
            gives = λ here. (ap (option_map volume_made) (same_found here), refl);
            room_is = λ here. omega (arith, ap room_found (same_found here));
          }

  abbrev core_in : ClosedCartridge D → Core Start Change
  core_in cartridge = found_core (found_in state cartridge) (torn_in state cartridge)

  -- the same, where a read gives this
  abbrev core_where : Bool → Images → Core Start Change
  core_where k seen =
      found_core (if k then Some old.contents else contents_on seen) (if k then changes_of old.torn else [])

  -- where each image showed what was found, that is found still
  same_core : AreHonest state old.disks → EachOfTwo state old.disks (ShowsCore medium_rules (core_in old))
      → core_in new_closed ≡ core_in old
  same_core honest shows = by old.known refl
    where
      by : (k : Bool) → old.known ≡ k → core_in new_closed ≡ core_in old
      by true is =
          ap (λ (k : Bool). core_where k (seen_of_two state disks)) is
          ∙ ap (λ (k : Bool). core_where k (seen_of_two state old.disks)) (sym is)
      by false is =
          ap (λ (k : Bool). core_where k (seen_of_two state disks)) is
          ∙ found_again (contents_on (seen_of_two state old.disks)) (seen_of_two state disks)
          (subst (λ (k : Bool). ShowsCore medium_rules (core_where k (seen_of_two state old.disks))
          (seen_of_two state disks)) is
          (shows (seen_of_two state disks) (read_image honest)))
          ∙ ap (λ (k : Bool). core_where k (seen_of_two state old.disks)) (sym is)

  pub moves_closed : CoreMoves medium_rules (two_disks state) old.disks disks (core_in old) (core_in new_closed) []
  moves_closed =
      record {
        keeps = two_keep state old.disks disks keeps;
        goes = λ honest shows.
            (subst (λ (new : Core Start Change). CoreMoves medium_rules (two_disks state) old.disks disks (core_in old)
            new [])
            (sym (same_core honest shows))
            (moves_resting medium_rules (two_disks state) (two_is_device state) old.disks disks (core_in old)
            (are_disks state is_disk disks) (two_keep state old.disks disks keeps)
            (λ h. two_rest state old.disks disks (ShowsCore medium_rules (core_in old)) (moments h)))).goes
            honest
            shows;
      }

  module _ (only : AreHonest state old.disks → OnlyOfTwo state old.disks disks) where
    only_seen : AreHonest state old.disks → seen_of_two state disks ≡ seen_of_two state old.disks
    only_seen honest =
        only honest (seen_of_two state disks)
        (read_now state is_disk disks (stay_honest state old.disks disks keeps honest))

    settled_now : IsSettledOn state new_closed
    settled_now unknown honest other left =
        let was = were_honest state old.disks disks keeps honest in only was other left ∙ sym (only_seen was)

    stays_as_found : StaysParked (AreHonest state old.disks) (closed_state state old) (closed_state state new_closed)
    stays_as_found = still_parked (AreHonest state old.disks) (λ honest unknown. only_seen honest)

  -- what is said of the device's fault
  known_stays : StaysParked (AreHonest state old.disks × ((closed_state state old).unread ≡ false))
      (closed_state state old) (closed_state state new_closed)
  known_stays =
      still_parked (AreHonest state old.disks × ((closed_state state old).unread ≡ false))
      (λ here unknown. let e : true ≡ false = sym (ap not unknown) ∙ here.1 in cc)

  module _ (no_cause : HasNoCause)
      (known : old.known ≡ true → AreHonest state old.disks → EachOfTwo state old.disks
      (ShowsContents old.contents old.torn))
    where
      -- where nothing is found on the disk, its side gives no volume
      gives_none : AreHonest state old.disks → ((contents : Contents) → GivesContents contents
          (seen_of_two state old.disks) → ⊥)
          → (closed_state state old).stored ≡ None
      gives_none honest never = by old.known refl
        where
          by : (k : Bool) → old.known ≡ k → (closed_state state old).stored ≡ None
          by true is =
              absurd (⊎_elim (never old.contents) (never (with_frames old.contents old.torn))
              (known is honest (seen_of_two state old.disks) (read_now state is_disk old.disks honest)))
          by false is =
              ap (λ (k : Bool). option_map volume_made
              (if k then Some old.contents else contents_on (seen_of_two state old.disks)))
              is ∙ ap (option_map volume_made) (contents_on_none (seen_of_two state old.disks) never)

      advances_unopened : NoneOfTwo state old.disks disks
          → Advances (buffer_below state) (closed_buffer old) [] false (closed_buffer new_closed)
      advances_unopened none =
          record {
            moved = moves_closed;
            counted = none_failed state old.disks disks none;
            honesty = (stay_honest state old.disks disks keeps, were_honest state old.disks disks keeps);
            hand = (λ h. h, λ h. h);
          }

      -- its side gives no volume
      unreadable : NoneOfTwo state old.disks disks → (AreHonest state old.disks → OnlyOfTwo state old.disks disks)
          → (AreHonest state old.disks → (contents : Contents)
          → GivesContents contents (seen_of_two state old.disks) → ⊥)
          → (Media.Unreadable ≢ Media.Device → IsSettledOn state new_closed)
          × WakesFrom (AreHonest state old.disks) false (closed_state state old) (Err Media.Unreadable)
          (closed_state state new_closed)
          × Advances (buffer_below state) (closed_buffer old) [] false (closed_buffer new_closed)
      unreadable none only never = (
        λ other. settled_now only,
        (stays_as_found only, λ honest. gives_none honest (never honest)),
        advances_unopened none,
      )

      pub stays_closed : (error : CartridgeError) → IsNotOpened state error old.disks disks
          → (wake_error_of error ≢ Media.Device → IsSettledOn state new_closed)
          × WakesFrom (AreHonest state old.disks) false (closed_state state old) (Err (wake_error_of error))
          (closed_state state new_closed)
          × Advances (buffer_below state) (closed_buffer old) [] (met_fault (Err (wake_error_of error)))
          (closed_buffer new_closed)
      stays_closed NotOurs refused =
          unreadable refused.0 (λ honest. (refused.1 honest).1)
          (λ honest contents gives. no_cause.ours (seen_of_two state old.disks) contents gives (refused.1 honest).0)
      stays_closed (Damaged at) refused =
          unreadable refused.0 (λ honest. (refused.1 honest).1)
          (λ honest contents gives.
          no_cause.whole (seen_of_two state old.disks) contents at gives (refused.1 honest).0)
      stays_closed (BadRecord at) refused =
          unreadable refused.0 (λ honest. (refused.1 honest).1)
          (λ honest contents gives. no_cause.bad (seen_of_two state old.disks) contents at gives (refused.1 honest).0)
      stays_closed (Device fault) refused = (
        λ other. absurd (other refl),
        record { stays = known_stays; torn = λ honest. refl },
        record {
          moved = moves_closed;
          counted = one_failed state old.disks disks fault refused;
          honesty = (stay_honest state old.disks disks keeps, were_honest state old.disks disks keeps);
          hand = (λ h. h, λ h. h);
        },
      )
      stays_closed NoMemory refused = (
        λ other. settled_now (λ honest. (refused.1 honest).1),
        stays_as_found (λ honest. (refused.1 honest).1),
        advances_unopened refused.0,
      )
      stays_closed SideFull refused = absurd refused
      stays_closed Failed refused = absurd refused
