-- A reclaim of a cartridge whose images gave the same contents is a change of base.
use Rattle.std.specs.Prelude.{◌≡◌, ◌⊎◌, ◌≤◌, ◌<◌, ◌+◌, ◌++◌, List, [], Some, true, false, length, refl}
use Rattle.std.proofs.Common.{inl, inr, sym, ◌∙◌, ap, subst, arith, ⊎_elim}
use Rattle.std.proofs.lemmas.List.{append-nil, drop_all, length-map, take_all}
use Rattle.vtl_base.specs.declared.faults.DevFault.{DevFault}
use Rattle.vtl_base.specs.declared.limits.TheConstants.{MAX_SIDE}
use Rattle.tape_disk.specs.Disk.{DiskState, IsDisk}
use Rattle.tape_disk.specs.TwoDisks.{AreHonest, EachOfTwo, Images, KeepsDisks, MayLeave, TwoDisks, TwoLeave, failures_of, seen_of_two, two_hold_now, two_weakened}
use Rattle.volume_core.specs.declared.changes.Change.{Change}
use Rattle.volume_core.specs.Volume.{after}
use Rattle.gate_journal.specs.Heads.{base_of}
use Rattle.change_records.specs.Records.{spell_all}
use Rattle.cartridge.specs.declared.error.CartridgeError.{CartridgeError}
use Rattle.cartridge.specs.declared.error.CartridgeError.TheVariants.{Device}
use Rattle.cartridge.specs.declared.reclaiming.NotReclaimed.{NotReclaimed}
use Rattle.cartridge.specs.declared.reclaiming.ReclaimError.TheVariants.{Cartridge}
use Rattle.cartridge.specs.Answers.{IsNotOpened}
use Rattle.cartridge.specs.Contents.{Contents, GivesContents, ShowsContents, changes_of, changes_since, start_of, volume_made, with_frames}
use Rattle.cartridge.specs.Disks.{NoneOfTwo}
use Rattle.cartridge.specs.Reclaiming.{GivesVolume, IsBrokenOff, IsNotReclaimed, IsUnplanned, KeepsOldSide, LeavesVolume, copy_frames, copy_length, reclaimed_from}
use Rattle.cartridge.specs.State.{ClosedCartridge}
use Rattle.accepted_changes.specs.Core.{CanAcknowledge, rebased}
use Rattle.accepted_changes.specs.Device.{two_keep}
use Rattle.accepted_changes.specs.Events.{ShowsCore}
use Rattle.accepted_changes.specs.Rebasing.{ShowsEither}
use Rattle.tape_buffer.specs.Reclaiming.{FailsToCopy, GiveOnly, IsNotRebased, RebasesContents, StayGiven}
use Rattle.tape_buffer.specs.Rules.{GivesChanges, GoesInto, medium_rules}
use Rattle.tape_buffer.specs.State.{found_core}
use Rattle.tape_buffer.proofs.HeldLemmas.{found_shows}
use Rattle.tape_buffer.proofs.OpeningLemmas.{GivesOne}
use Rattle.tape_buffer.proofs.TwoLemmas.{are_disks, one_failed, read_now, stay_honest}

-- the volume is what the changes since make of the one before
abbrev MadeSince : Type 0
MadeSince = (contents : Contents) → volume_made contents ≡ after (start_of contents).volume (changes_since contents)

module _ (contents : Contents) where
  abbrev copied : Contents
  copied = reclaimed_from contents

  -- all frames of the copy are its base
  all_are_base : base_of copied.head ≡ length copied.frames
  all_are_base = length-map (copy_frames contents) spell_all

  -- nothing came since
  nothing_since : changes_since copied ≡ []
  nothing_since = ap changes_of (drop_all (base_of copied.head) copied.frames (omega (arith, all_are_base)))

  volume_before : (start_of copied).volume ≡ volume_made copied
  volume_before =
      ap (λ (frames : List (List Change)). after copied.base (changes_of frames))
      (take_all (base_of copied.head) copied.frames (omega (arith, all_are_base)))

  -- all that was accepted goes into the copy, where its volume is the same
  goes_into : MadeSince → volume_made copied ≡ volume_made contents
      → GoesInto (start_of contents) (changes_since contents ++ []) (start_of copied)
  goes_into since same = record {
    heading = refl;
    epoch = refl;
    volume =
        volume_before ∙ same ∙ since contents
        ∙ ap (after (start_of contents).volume) (sym (append-nil (changes_since contents)));
  }

  -- a closed cartridge with nothing torn has accepted what it holds
  could : CanAcknowledge (found_core (Some contents) [])
  could = ((refl, refl), ap length (sym (append-nil (changes_since contents))))

  -- that of the copy has accepted nothing
  copied_is : found_core (Some copied) [] ≡ rebased (start_of copied) (found_core (Some contents) [])
  copied_is = λ i. record {
    base = start_of copied;
    accepted = nothing_since i ++ [];
    stored = length (nothing_since i) + 0;
    safe = length (nothing_since i);
    fault = false;
    stuck = false;
    recovering = true;
  }

  -- what gives the contents shows the core
  shown : (images : Images) → GivesContents contents images
      → ShowsCore medium_rules (found_core (Some contents) []) images
  shown images gives = found_shows contents [] gives.0.copied images (inl gives)

  -- what gives the copy gives nothing behind it
  nothing_behind : (images : Images) → GivesContents copied images → GivesChanges (start_of copied) [] images
  nothing_behind images gives = (copied, gives, refl, nothing_since)

module _ {D : Type 0} (state : D → DiskState) (is_disk : (disk : D) → (state disk).honest → IsDisk (state disk))
    (one : GivesOne) (since : MadeSince) (contents : Contents) (cartridge : ClosedCartridge D)
    (only : GiveOnly state contents cartridge.disks) where
  abbrev old : TwoDisks D
  old = cartridge.disks

  -- a read gives them too
  read : GivesContents contents (seen_of_two state old)
  read = only.1 (seen_of_two state old) (read_now state is_disk old only.0)

  -- what was read is these
  is_read : (found : Contents) → GivesContents found (seen_of_two state old) → found ≡ contents
  is_read found gives = one (seen_of_two state old) found contents gives read

  by_volume : (images : Images) → GivesVolume contents images
      → ShowsEither medium_rules (found_core (Some contents) []) (start_of (copied contents)) images
  by_volume images (inl gives) = inl (shown contents images gives)
  by_volume images (inr copy) = inr (nothing_behind contents images copy.0, goes_into contents since copy.1)

  -- images of a reclaim show the core, or the copy with nothing behind it
  either : (images : Images) → LeavesVolume (MayLeave state old) (seen_of_two state old) images
      → ShowsEither medium_rules (found_core (Some contents) []) (start_of (copied contents)) images
  either images (inl left) = inl (shown contents images (only.1 images left))
  either images (inr found) =
      by_volume images (subst (λ (c : Contents). GivesVolume c images) (is_read found.0 found.1) found.2)

  module _ (new : TwoDisks D) (keeps : KeepsDisks state old new) where
    moments : TwoLeave state old new (LeavesVolume (MayLeave state old) (seen_of_two state old))
        → TwoLeave state old new
        (ShowsEither medium_rules (found_core (Some contents) []) (start_of (copied contents)))
    moments left =
        two_weakened state old new (LeavesVolume (MayLeave state old) (seen_of_two state old))
        (ShowsEither medium_rules (found_core (Some contents) []) (start_of (copied contents))) left either

    rebases_copied : volume_made (copied contents) ≡ volume_made contents
        → TwoLeave state old new (LeavesVolume (MayLeave state old) (seen_of_two state old))
        → EachOfTwo state new (GivesContents (copied contents))
        → RebasesContents state contents (copied contents) old new
    rebases_copied same left sure = record {
      keeps = two_keep state old new keeps;
      could = could contents;
      goes_into = goes_into contents since same;
      is = copied_is contents;
      moments = λ honest shows. moments left;
      sure = λ honest shows images may. nothing_behind contents images (sure images may);
    }

    fails_to_copy : failures_of state old < failures_of state new
        → TwoLeave state old new (LeavesVolume (MayLeave state old) (seen_of_two state old))
        → FailsToCopy state contents old new
    fails_to_copy failed left = record {
      keeps = two_keep state old new keeps;
      failed = failed;
      could = could contents;
      moments = λ honest shows. moments left;
    }

    -- where nothing was written they stay
    stay_given : TwoLeave state old new (MayLeave state old) → StayGiven state contents old new
    stay_given left =
        let still = two_weakened state old new (MayLeave state old) (GivesContents contents) left only.1 in
        record {
          moments = still;
          now =
              two_hold_now state old new (GivesContents contents)
              (are_disks state is_disk new (stay_honest state old new keeps only.0)) still;
        }

  -- a cartridge that was reclaimed
  pub rebases : (new : ClosedCartridge D) → KeepsDisks state old new.disks
      → (new.known ≡ true) × (new.torn ≡ []) × NoneOfTwo state old new.disks
      → ((found : Contents) × (new.contents ≡ reclaimed_from found)
      × (volume_made new.contents ≡ volume_made found) × (copy_length found ≤ MAX_SIDE)
      × (AreHonest state old → GivesContents found (seen_of_two state old))
      × (AreHonest state old → EachOfTwo state new.disks (KeepsOldSide found (seen_of_two state old))))
      → (new.known ≡ true → AreHonest state new.disks
      → EachOfTwo state new.disks (ShowsContents new.contents new.torn))
      → (AreHonest state old
      → TwoLeave state old new.disks (LeavesVolume (MayLeave state old) (seen_of_two state old)))
      → RebasesContents state contents new.contents old new.disks
  rebases new keeps ok copy known left =
      subst (λ (c : Contents). RebasesContents state contents c old new.disks) (sym is)
      (rebases_copied new.disks keeps
      (subst (λ (c : Contents). volume_made c ≡ volume_made contents) is
      (copy.2 ∙ ap volume_made found_is)) (left only.0) sure)
    where
      found_is : copy.0 ≡ contents
      found_is = is_read copy.0 (copy.4 only.0)

      is : new.contents ≡ copied contents
      is = copy.1 ∙ ap reclaimed_from found_is

      whole : (images : Images) → ShowsContents (copied contents) [] images → GivesContents (copied contents) images
      whole images =
          ⊎_elim (λ (gives : GivesContents (copied contents) images). gives)
          (λ (gives : GivesContents (with_frames (copied contents) []) images).
          subst (λ (frames : List (List Change)).
          GivesContents (record (copied contents) { frames = frames }) images)
          (append-nil (copied contents).frames) gives)

      sure : EachOfTwo state new.disks (GivesContents (copied contents))
      sure = λ images may.
          whole images
          (subst (λ (c : Contents). ShowsContents c [] images) is
          (subst (λ (t : List (List Change)). ShowsContents new.contents t images) ok.1
          (known ok.0 (stay_honest state old new.disks keeps only.0) images may)))

  -- after a device fault one has failed
  one_more : (refused : NotReclaimed D) (fault : DevFault) → refused.error ≡ Cartridge (Device fault)
      → IsNotReclaimed state cartridge refused → failures_of state old < failures_of state refused.shelved.disks
  one_more refused fault is =
      ⊎_elim
      (λ (opened : (error : CartridgeError) × (refused.error ≡ Cartridge error)
      × IsNotOpened state error old refused.shelved.disks
      × (refused.shelved ≡ record cartridge { disks = refused.shelved.disks })).
      one_failed state old refused.shelved.disks fault
      (subst (λ (error : CartridgeError). IsNotOpened state error old refused.shelved.disks)
      (inner opened.0 (Device fault) (sym opened.1 ∙ is)) opened.2))
      (⊎_elim
      (λ (unplanned : NoneOfTwo state old refused.shelved.disks × (refused.shelved.known ≡ true)
      × IsUnplanned refused.shelved.contents refused.error
      × (AreHonest state old → GivesContents refused.shelved.contents (seen_of_two state old))).
      absurd (subst (IsUnplanned refused.shelved.contents) is unplanned.2))
      (λ (broken : IsBrokenOff state old refused).
      one_failed state old refused.shelved.disks broken.0 broken.2))
    where
      inner : (a b : CartridgeError) → Cartridge a ≡ Cartridge b → a ≡ b
      inner a b same = cc

  -- a cartridge that was not
  pub not_rebased : (refused : NotReclaimed D) → KeepsDisks state old refused.shelved.disks
      → IsNotReclaimed state cartridge refused
      → IsBrokenOff state old refused
      ⊎ (AreHonest state old → TwoLeave state old refused.shelved.disks (MayLeave state old))
      → (AreHonest state old
      → TwoLeave state old refused.shelved.disks (LeavesVolume (MayLeave state old) (seen_of_two state old)))
      → IsNotRebased state contents old refused
  not_rebased refused keeps why unwritten left = record {
    fails = λ fault is.
        fails_to_copy refused.shelved.disks keeps (one_more refused fault is why) (left only.0);
    stays =
        ⊎_elim (λ (broken : IsBrokenOff state old refused). inl broken)
        (λ (still : AreHonest state old → TwoLeave state old refused.shelved.disks (MayLeave state old)).
        inr (stay_given refused.shelved.disks keeps (still only.0))) unwritten;
  }
