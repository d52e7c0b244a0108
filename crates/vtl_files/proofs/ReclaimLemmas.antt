-- What is printed of a cartridge that was reclaimed, and of one that was not.
use Rattle.std.proofs.Common.{◌≡◌, ◌⊎◌, inl, inr, ⊎_elim, ℕ, List, [], true, refl, sym, ap, ◌∙◌, subst, arith, Result, Ok, Err, OnOk, IfOk, IfErr}
use Rattle.std.proofs.lemmas.List.{append-nil}
use Rattle.vtl_base.specs.declared.faults.DevFault.{DevFault}
use Rattle.tape_disk.specs.Disk.{DiskState, Keeps}
use Rattle.tape_disk.specs.TwoDisks.{AreHonest, EachOfTwo, Images, MayLeave, TwoDisks, seen_of_two, two_rest_still}
use Rattle.gate_journal.specs.Heads.{epoch_of}
use Rattle.cartridge.specs.declared.error.CartridgeError.{CartridgeError}
use Rattle.cartridge.specs.declared.error.CartridgeError.TheVariants.{NotOurs, Damaged, BadRecord, SideFull, Device, Failed, NoMemory}
use Rattle.cartridge.specs.declared.reclaiming.NotReclaimed.{NotReclaimed}
use Rattle.cartridge.specs.declared.reclaiming.ReclaimError.{ReclaimError}
use Rattle.cartridge.specs.declared.reclaiming.ReclaimError.TheVariants.{Cartridge, EpochsSpent}
use Rattle.cartridge.specs.Answers.{IsNotOpened}
use Rattle.cartridge.specs.Contents.{Contents, GivesContents, ShowsContents, volume_made, with_frames}
use Rattle.cartridge.specs.Disks.{NoneOfTwo}
use Rattle.cartridge.specs.Reclaiming.{IsBrokenOff, IsUnplanned, IsUntouched, LeavesVolume, StaysSure, reclaimed_from}
use Rattle.cartridge.specs.State.{ClosedCartridge}
use Rattle.tape_buffer.specs.Reclaiming.{FailsToCopy, GiveOnly, RebasesContents, ReclaimsShelved}
use Rattle.vtl_faults.specs.declared.faults.VtlFault.{VtlFault}
use Rattle.vtl_faults.specs.declared.faults.VtlFault.TheVariants as faults
use Rattle.vtl_files.specs.Reclaims.{IsLine, IsReclaimed, RefusesUntouched, IsNotPrinted, Reclaims, RefusalText, PrintsCause, reclaimed_line}
use Rattle.check_lines.proofs.PairLemmas.{fault_counted}

-- a disk that was not called
same_keeps : {D : Type 0} (state : D → DiskState) (disk : D) → Keeps (state disk) (state disk)
same_keeps state disk =
    record { stays_honest = λ honest. honest; was_honest = λ honest. honest; counted = omega arith }

module _ {D : Type 0} (state : D → DiskState) (barcode : List ℕ) where
  -- where nothing is torn, what shows contents gives them
  shown_whole : (contents : Contents) (images : Images) → ShowsContents contents [] images
      → GivesContents contents images
  shown_whole contents images shown =
      ⊎_elim (λ (gives : GivesContents contents images). gives)
      (λ (gives : GivesContents (with_frames contents []) images).
      subst (λ (frames : List _). GivesContents (record contents { frames = frames }) images)
      (append-nil contents.frames) gives)
      shown

  -- whatever crash comes, the disks give these contents
  still_given : (disks : TwoDisks D) (contents made : Contents) (torn : List _) → contents ≡ made → torn ≡ []
      → EachOfTwo state disks (ShowsContents contents torn) → EachOfTwo state disks (GivesContents made)
  still_given disks contents made torn is none shows = λ images may.
      shown_whole made images (subst (λ (c : Contents). ShowsContents c [] images) is
      (subst (λ (t : List _). ShowsContents contents t images) none (shows images may)))

  -- a cartridge was reclaimed
  pub done_shown : (old shelved : ClosedCartridge D) (text : List ℕ) (epoch : ℕ)
      → ReclaimsShelved state old (Ok shelved)
      → (shelved.known ≡ true → AreHonest state shelved.disks
      → EachOfTwo state shelved.disks (ShowsContents shelved.contents shelved.torn))
      → (shelved.known ≡ true → epoch ≡ epoch_of shelved.contents.head)
      → text ≡ reclaimed_line barcode epoch
      → Reclaims state barcode old.disks shelved.disks (Ok text)
  done_shown old shelved text epoch reclaims shows count line =
      let contents = reclaims.copy.0 in
      let is = reclaims.copy.1 in
      record {
        keeps = reclaims.disks;
        none_failed = reclaims.ok.2;
        text = λ honest. inl (record {
          contents = contents;
          gave = reclaims.copy.4 honest;
          fits = reclaims.copy.3;
          gives = still_given shelved.disks shelved.contents (reclaimed_from contents) shelved.torn is reclaims.ok.1
              (shows reclaims.ok.0
              (reclaims.disks.0.stays_honest honest.0, reclaims.disks.1.stays_honest honest.1));
          same = subst (λ (c : Contents). volume_made c ≡ volume_made contents) is reclaims.copy.2;
          sides = reclaims.copy.5 honest;
          rebases = λ each.
              subst (λ (c : Contents). RebasesContents state contents c old.disks shelved.disks) is
              (reclaims.base contents (honest, each));
          line =
              line
              ∙ ap (reclaimed_line barcode) (count reclaims.ok.0 ∙ ap (λ (c : Contents). epoch_of c.head) is);
        });
        cause = tt;
        any_moment = reclaims.any_moment;
      }

  -- memory ran out for the line, before anything was done
  pub none_shown : (disks : TwoDisks D) → Reclaims state barcode disks disks (Err faults.NoMemory)
  none_shown disks =
      record {
        keeps = (same_keeps state disks.first, same_keeps state disks.second);
        none_failed = tt;
        text = tt;
        cause = (
          (refl, refl),
          λ honest. record {
            seen = refl;
            images = λ images left. left;
            moments = two_rest_still state disks (MayLeave state disks) (λ images left. left);
          },
        );
        any_moment = λ honest.
            two_rest_still state disks (LeavesVolume (MayLeave state disks) (seen_of_two state disks))
            (λ images left. inl left);
      }

module _ {D : Type 0} (state : D → DiskState) (old new : TwoDisks D) where
  -- what is printed of a cartridge that was not reclaimed, and why nothing is
  pub record Answers (lines : Result (List ℕ) VtlFault) : Type 0 where
    pub none_failed : OnOk lines (NoneOfTwo state old new)
    pub text : IfOk lines (λ text. AreHonest state old → RefusesUntouched state old new text)
    pub cause : IfErr lines (λ fault. IsNotPrinted state fault old new)

  -- a change of base failed, whatever the contents were
  abbrev NoCopy : Type 0
  NoCopy = (contents : Contents) → GiveOnly state contents old → FailsToCopy state contents old new

  -- memory ran out
  out_of_memory : (lines : Result (List ℕ) VtlFault) → lines ≡ Err faults.NoMemory → NoneOfTwo state old new
      → (AreHonest state old → StaysSure state old new) → Answers lines
  out_of_memory lines is none sure =
      rw is (record { none_failed = tt; text = tt; cause = (none, λ honest. (sure honest).0) })

  -- a line that is true
  shown_so : (line : List ℕ) (lines : Result (List ℕ) VtlFault) → IsLine line lines → NoneOfTwo state old new
      → (AreHonest state old → RefusalText (seen_of_two state old) line)
      → (AreHonest state old → StaysSure state old new) → Answers lines
  shown_so line (Ok text) is none so sure = record {
    none_failed = none;
    text = λ honest.
        (subst (λ (t : List ℕ). RefusalText (seen_of_two state old) t) (sym is) (so honest), sure honest);
    cause = tt;
  }
  shown_so line (Err fault) is none so sure = record {
    none_failed = tt;
    text = tt;
    cause =
        subst (λ (f : VtlFault). IsNotPrinted state f old new) (sym is) (none, λ honest. (sure honest).0);
  }

  -- a disk failed
  broken_off : (lines : Result (List ℕ) VtlFault) → lines ≡ Err faults.Device → IsNotPrinted state faults.Device old new
      → Answers lines
  broken_off lines is why = rw is (record { none_failed = tt; text = tt; cause = why })

  -- it was not opened
  not_opened : (error : CartridgeError) (lines : Result (List ℕ) VtlFault) → IsNotOpened state error old new
      → ((fault : DevFault) → error ≡ Device fault → NoCopy)
      → (AreHonest state old → IsUntouched state (Cartridge error) old new) → PrintsCause (Cartridge error) lines
      → Answers lines
  not_opened NotOurs lines why broken sure is =
      shown_so _ lines is why.0 (λ honest. inr (inl ((why.1 honest).0, refl))) sure
  not_opened (Damaged at) lines why broken sure is =
      shown_so _ lines is why.0 (λ honest. inr (inr (inl (at, (why.1 honest).0, refl)))) sure
  not_opened (BadRecord at) lines why broken sure is =
      shown_so _ lines is why.0 (λ honest. inr (inr (inr (at, (why.1 honest).0, refl)))) sure
  not_opened (Device fault) lines why broken sure is =
      broken_off lines is (fault_counted state old new fault why, broken fault refl)
  not_opened NoMemory lines why broken sure is = out_of_memory lines is why.0 sure
  not_opened SideFull lines why broken sure is = absurd why
  not_opened Failed lines why broken sure is = absurd why

  -- there was no room, no epoch or no memory for the copy
  not_planned : (contents : Contents) (error : ReclaimError) (lines : Result (List ℕ) VtlFault)
      → IsUnplanned contents error → NoneOfTwo state old new
      → (AreHonest state old → GivesContents contents (seen_of_two state old))
      → (AreHonest state old → IsUntouched state error old new) → PrintsCause error lines → Answers lines
  not_planned contents EpochsSpent lines why none gives sure is =
      shown_so _ lines is none (λ honest. inl (contents, gives honest, inr why.1, refl)) sure
  not_planned contents (Cartridge SideFull) lines why none gives sure is =
      shown_so _ lines is none (λ honest. inl (contents, gives honest, inl why, refl)) sure
  not_planned contents (Cartridge NoMemory) lines why none gives sure is = out_of_memory lines is none sure
  not_planned contents (Cartridge NotOurs) lines why none gives sure is = absurd why
  not_planned contents (Cartridge (Damaged at)) lines why none gives sure is = absurd why
  not_planned contents (Cartridge (BadRecord at)) lines why none gives sure is = absurd why
  not_planned contents (Cartridge (Device fault)) lines why none gives sure is = absurd why
  not_planned contents (Cartridge Failed) lines why none gives sure is = absurd why

module _ {D : Type 0} (state : D → DiskState) (barcode : List ℕ) (old : ClosedCartridge D) (refused : NotReclaimed D)
    (lines : Result (List ℕ) VtlFault) (reclaims : ReclaimsShelved state old (Err refused))
    (is : PrintsCause refused.error lines) where
  abbrev new : TwoDisks D
  new = refused.shelved.disks

  -- after a device fault a change of base failed
  copy_failed : (fault : DevFault) → refused.error ≡ Cartridge (Device fault) → NoCopy state old.disks new
  copy_failed fault cause contents only = (reclaims.base contents only).fails fault cause

  -- the cause why it was not reclaimed is reported
  answered : Answers state old.disks new lines
  answered =
      ⊎_elim
      (λ (first : (error : CartridgeError) × (refused.error ≡ Cartridge error)
      × IsNotOpened state error old.disks new × (refused.shelved ≡ record old { disks = new })).
      not_opened state old.disks new first.0 lines first.2
      (λ fault cause. copy_failed fault (first.1 ∙ ap Cartridge cause))
      (λ honest.
      subst (λ (e : ReclaimError). IsUntouched state e old.disks new) first.1 (reclaims.untouched honest))
      (subst (λ (e : ReclaimError). PrintsCause e lines) first.1 is))
      (⊎_elim
      (λ (unplanned : NoneOfTwo state old.disks new × (refused.shelved.known ≡ true)
      × IsUnplanned refused.shelved.contents refused.error
      × (AreHonest state old.disks → GivesContents refused.shelved.contents (seen_of_two state old.disks))).
      not_planned state old.disks new refused.shelved.contents refused.error lines unplanned.2 unplanned.0 unplanned.3
      reclaims.untouched is)
      (λ (broken : IsBrokenOff state old.disks refused).
      broken_off state old.disks new lines (subst (λ (e : ReclaimError). PrintsCause e lines) broken.1 is)
      (fault_counted state old.disks new broken.0 broken.2, copy_failed broken.0 broken.1)))
      reclaims.refused

  -- a cartridge was not reclaimed
  pub refused_shown : Reclaims state barcode old.disks new lines
  refused_shown =
      record {
        keeps = reclaims.disks;
        none_failed = answered.none_failed;
        text = weakened lines answered.text;
        cause = answered.cause;
        any_moment = reclaims.any_moment;
      }
    where
      weakened : (lines : Result (List ℕ) VtlFault)
          → IfOk lines (λ text. AreHonest state old.disks → RefusesUntouched state old.disks new text)
          → IfOk lines (λ text. AreHonest state old.disks →
          IsReclaimed state barcode old.disks new text ⊎ RefusesUntouched state old.disks new text)
      weakened (Ok text) so = λ honest. inr (so honest)
      weakened (Err fault) so = tt
