-- A reclaim as a change of base: all that a cartridge accepted since it was made or last reclaimed goes into the volume
-- of the copy, from which the next changes are carried out.
use Rattle.std.specs.Prelude.{◌≡◌, ◌⊎◌, ◌≤◌, [], Some, true, Result, Ok, Err, IfOk, IfErr}
use Rattle.vtl_base.specs.declared.faults.DevFault.{DevFault}
use Rattle.vtl_base.specs.declared.limits.TheConstants.{MAX_SIDE}
use Rattle.tape_disk.specs.Disk.{DiskState}
use Rattle.tape_disk.specs.TwoDisks.{AreHonest, EachOfTwo, KeepsDisks, MayLeave, TwoDisks, TwoLeave, seen_of_two}
use Rattle.cartridge.specs.declared.error.CartridgeError.TheVariants.{Device}
use Rattle.cartridge.specs.declared.reclaiming.NotReclaimed.{NotReclaimed}
use Rattle.cartridge.specs.declared.reclaiming.ReclaimError.TheVariants.{Cartridge}
use Rattle.cartridge.specs.Contents.{Contents, GivesContents, start_of, volume_made}
use Rattle.cartridge.specs.Disks.{NoneOfTwo}
use Rattle.cartridge.specs.Reclaiming.{IsBrokenOff, IsNotReclaimed, IsUntouched, KeepsOldSide, LeavesVolume, copy_length, disks_reclaimed, reclaimed_from}
use Rattle.cartridge.specs.State.{ClosedCartridge}
use Rattle.accepted_changes.specs.Device.{two_disks}
use Rattle.accepted_changes.specs.Rebasing.{FailsToRebase, Rebases}
use Rattle.tape_buffer.specs.Rules.{medium_rules}
use Rattle.tape_buffer.specs.State.{found_core}

module _ {D : Type 0} (state : D → DiskState) where
  -- both disks are honest, and each pair of images that a crash now may leave gives these contents (own)
  abbrev pub GiveOnly : Contents → TwoDisks D → Type 0
  GiveOnly contents disks = AreHonest state disks × EachOfTwo state disks (GivesContents contents)

  -- the change of base from a closed cartridge with these contents to one with the others (own)
  abbrev pub RebasesContents : (old new : Contents) → TwoDisks D → TwoDisks D → Type 0
  RebasesContents old new disks disks' =
      Rebases medium_rules (two_disks state) disks disks' (found_core (Some old) []) (found_core (Some new) [])

  -- a disk failed in the change of base from these contents to their copy (own)
  abbrev pub FailsToCopy : Contents → TwoDisks D → TwoDisks D → Type 0
  FailsToCopy contents disks disks' =
      FailsToRebase medium_rules (two_disks state) disks disks' (found_core (Some contents) [])
      (start_of (reclaimed_from contents))

  -- nothing was written: at each moment since, and now, a crash leaves what gives these contents (own)
  pub record StayGiven (contents : Contents) (disks disks' : TwoDisks D) : Type 0 where
    pub moments : TwoLeave state disks disks' (GivesContents contents)
    pub now : EachOfTwo state disks' (GivesContents contents)

  -- What a crash leaves where these contents are not reclaimed: after a device fault, these or their copy; but these
  -- alone, at each moment, unless the fault came while they were copied (own).
  pub record IsNotRebased (contents : Contents) (old : TwoDisks D) (refused : NotReclaimed D) : Type 0 where
    pub fails : (fault : DevFault) → refused.error ≡ Cartridge (Device fault)
        → FailsToCopy contents old refused.shelved.disks
    pub stays : IsBrokenOff state old refused ⊎ StayGiven contents old refused.shelved.disks

  -- what a reclaim makes of these contents (own)
  abbrev pub ChangesBase : Contents → TwoDisks D → Result (ClosedCartridge D) (NotReclaimed D) → Type 0
  ChangesBase contents old (Ok reclaimed) = RebasesContents contents reclaimed.contents old reclaimed.disks
  ChangesBase contents old (Err refused) = IsNotRebased contents old refused

  -- A closed cartridge is reclaimed, or it is not, for a cause: what `Cartridge::reclaim` says of that. Where both
  -- disks are honest, and each pair of images gave the same contents, it is a change of base (own).
  pub record ReclaimsShelved (old : ClosedCartridge D) (result : Result (ClosedCartridge D) (NotReclaimed D))
      : Type 0 where
    pub disks : KeepsDisks state old.disks (disks_reclaimed result)
    pub ok : IfOk result (λ reclaimed. (reclaimed.known ≡ true) × (reclaimed.torn ≡ [])
        × NoneOfTwo state old.disks reclaimed.disks)
    pub copy : IfOk result (λ reclaimed. (contents : Contents) × (reclaimed.contents ≡ reclaimed_from contents)
        × (volume_made reclaimed.contents ≡ volume_made contents) × (copy_length contents ≤ MAX_SIDE)
        × (AreHonest state old.disks → GivesContents contents (seen_of_two state old.disks))
        × (AreHonest state old.disks →
        EachOfTwo state reclaimed.disks (KeepsOldSide contents (seen_of_two state old.disks))))
    pub refused : IfErr result (λ refused. IsNotReclaimed state old refused)
    pub unwritten : IfErr result (λ refused. IsBrokenOff state old.disks refused
        ⊎ (AreHonest state old.disks →
        TwoLeave state old.disks refused.shelved.disks (MayLeave state old.disks)))
    pub untouched : IfErr result (λ refused. AreHonest state old.disks →
        IsUntouched state refused.error old.disks refused.shelved.disks)
    pub any_moment : AreHonest state old.disks → TwoLeave state old.disks (disks_reclaimed result)
        (LeavesVolume (MayLeave state old.disks) (seen_of_two state old.disks))
    pub base : (contents : Contents) → GiveOnly contents old.disks → ChangesBase contents old.disks result
