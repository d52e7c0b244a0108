-- A reclaim that is refused writes nothing, unless a disk failed.
use Rattle.std.proofs.Common.{◌≡◌, ◌≤◌, sym, subst}
use Rattle.std.specs.Prelude.{[], true, Result, Ok, Err, IfErr, IfOk}
use Rattle.std.proofs.lemmas.Result.{IfErr-weaker}
use Rattle.vtl_base.specs.declared.limits.TheConstants.{MAX_SIDE}
use Rattle.tape_disk.specs.Disk.{DiskState, IsDisk}
use Rattle.tape_disk.specs.TwoDisks.{AreHonest, EachOfTwo, Images, KeepsDisks, MayLeave, TwoDisks, TwoLeave, seen_of_two}
use Rattle.cartridge.specs.declared.error.CartridgeError.{CartridgeError}
use Rattle.cartridge.specs.declared.error.CartridgeError.TheVariants.{NotOurs, Damaged, BadRecord, SideFull, Device, Failed, NoMemory}
use Rattle.cartridge.specs.declared.reclaiming.NotReclaimed.{NotReclaimed}
use Rattle.cartridge.specs.declared.reclaiming.ReclaimError.{ReclaimError}
use Rattle.cartridge.specs.declared.reclaiming.ReclaimError.TheVariants.{Cartridge, EpochsSpent}
use Rattle.cartridge.specs.Answers.{IsNotOpened}
use Rattle.cartridge.specs.Contents.{Contents, GivesContents, volume_made}
use Rattle.cartridge.specs.Disks.{NoneOfTwo, OnlyOfTwo}
use Rattle.cartridge.specs.Reclaiming.{IsBrokenOff, IsUntouched, KeepsOldSide, StaysSure, copy_length, reclaimed_from}
use Rattle.cartridge.specs.State.{ClosedCartridge}

module _ {D : Type 0} (state : D → DiskState) where
  -- where nothing was written and what stands is sure, whatever the cause is
  pub sure_untouched : (old new : TwoDisks D) (error : ReclaimError) → StaysSure state old new
      → IsUntouched state error old new
  sure_untouched old new EpochsSpent sure = sure
  sure_untouched old new (Cartridge NotOurs) sure = sure
  sure_untouched old new (Cartridge (Damaged at)) sure = sure
  sure_untouched old new (Cartridge (BadRecord at)) sure = sure
  sure_untouched old new (Cartridge SideFull) sure = sure
  sure_untouched old new (Cartridge Failed) sure = sure
  sure_untouched old new (Cartridge NoMemory) sure = sure
  sure_untouched old new (Cartridge (Device fault)) sure = tt

  -- calls that leave what might have been left before
  module _ (laws : (d : D) → (state d).honest → IsDisk (state d)) (old new : TwoDisks D)
      (honest : AreHonest state old) (keeps : KeepsDisks state old new)
      (quiet : TwoLeave state old new (MayLeave state old)) where
    pub stays_sure : OnlyOfTwo state old new → StaysSure state old new
    stays_sure only = (
      record {
        seen = only (seen_of_two state new) (
          (laws new.first (keeps.0.stays_honest honest.0)).reads,
          (laws new.second (keeps.1.stays_honest honest.1)).reads,
        );
        images = λ images left. subst (λ (pair : Images). MayLeave state old pair) (sym (only images left))
            ((laws old.first honest.0).reads, (laws old.second honest.1).reads);
        moments = quiet;
      },
      only,
    )

    -- an opening that was refused
    pub not_opened : (error : CartridgeError) → IsNotOpened state error old new
        → IsUntouched state (Cartridge error) old new
    not_opened NotOurs why = stays_sure (why.1 honest).1
    not_opened (Damaged at) why = stays_sure (why.1 honest).1
    not_opened (BadRecord at) why = stays_sure (why.1 honest).1
    not_opened (Device fault) why = tt
    not_opened NoMemory why = stays_sure (why.1 honest).1
    not_opened SideFull why = absurd why
    not_opened Failed why = absurd why

  -- of a disk that failed nothing of this is said
  pub broken_untouched : (first old : TwoDisks D) (result : Result (ClosedCartridge D) (NotReclaimed D))
      → IfErr result (λ refused. IsBrokenOff state old refused)
      → IfErr result (λ refused. AreHonest state first →
      IsUntouched state refused.error first refused.shelved.disks)
  broken_untouched first old result broken =
      IfErr-weaker result (λ refused. IsBrokenOff state old refused)
      (λ refused. AreHonest state first → IsUntouched state refused.error first refused.shelved.disks)
      (λ refused is. λ honest. subst (λ (e : ReclaimError). IsUntouched state e first refused.shelved.disks)
      (sym is.1) tt) broken

  -- a copy of what was opened is one of what the disks read before that, where they read the same
  pub copied_since : (old mid : TwoDisks D) (contents : Contents)
      (result : Result (ClosedCartridge D) (NotReclaimed D))
      → IfOk result (λ made. (made.known ≡ true) × (made.torn ≡ []) × (made.contents ≡ reclaimed_from contents)
      × NoneOfTwo state mid made.disks)
      → IfOk result (λ made. volume_made made.contents ≡ volume_made contents)
      → IfOk result (λ made. AreHonest state mid →
      EachOfTwo state made.disks (KeepsOldSide contents (seen_of_two state mid)))
      → copy_length contents ≤ MAX_SIDE
      → (AreHonest state old → AreHonest state mid)
      → (AreHonest state old → GivesContents contents (seen_of_two state old))
      → (AreHonest state old → seen_of_two state mid ≡ seen_of_two state old)
      → IfOk result (λ made. (found : Contents) × (made.contents ≡ reclaimed_from found)
      × (volume_made made.contents ≡ volume_made found) × (copy_length found ≤ MAX_SIDE)
      × (AreHonest state old → GivesContents found (seen_of_two state old))
      × (AreHonest state old → EachOfTwo state made.disks (KeepsOldSide found (seen_of_two state old))))
  copied_since old mid contents (Ok made) ok volume sides fits still gives same = (
    contents,
    ok.2,
    volume,
    fits,
    gives,
    λ honest. subst (λ (seen : Images). EachOfTwo state made.disks (KeepsOldSide contents seen)) (same honest)
        (sides (still honest)),
  )
  copied_since old mid contents (Err refused) ok volume sides fits still gives same = tt
