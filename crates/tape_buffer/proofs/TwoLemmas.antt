-- What is known of two disks from what is known of each.
use Rattle.std.specs.Prelude.{◌≡◌, ◌<◌}
use Rattle.std.proofs.Common.{inl, inr, arith}
use Rattle.vtl_base.specs.declared.faults.DevFault.{DevFault}
use Rattle.tape_disk.specs.Disk.{DiskState, IsDisk}
use Rattle.tape_disk.specs.TwoDisks.{AreDisks, AreHonest, KeepsDisks, MayLeave, TwoDisks, failures_of, seen_of_two}
use Rattle.cartridge.specs.Disks.{IsFaultOfTwo, NoneOfTwo}

module _ {D : Type 0} (state : D → DiskState) where
  -- honest disks keep to the laws of honest disks
  pub are_disks : ((disk : D) → (state disk).honest → IsDisk (state disk)) → (disks : TwoDisks D)
      → AreHonest state disks → AreDisks state disks
  are_disks is_disk disks honest = (is_disk disks.first honest.0, is_disk disks.second honest.1)

  -- a crash may leave what a read gives
  pub read_now : ((disk : D) → (state disk).honest → IsDisk (state disk)) → (disks : TwoDisks D)
      → AreHonest state disks → MayLeave state disks (seen_of_two state disks)
  read_now is_disk disks honest = ((is_disk disks.first honest.0).reads, (is_disk disks.second honest.1).reads)

  module _ (old new : TwoDisks D) where
    pub stay_honest : KeepsDisks state old new → AreHonest state old → AreHonest state new
    stay_honest keeps honest = (keeps.0.stays_honest honest.0, keeps.1.stays_honest honest.1)

    pub were_honest : KeepsDisks state old new → AreHonest state new → AreHonest state old
    were_honest keeps honest = (keeps.0.was_honest honest.0, keeps.1.was_honest honest.1)

    -- where no call of either failed, their sum stays
    pub none_failed : NoneOfTwo state old new → failures_of state new ≡ failures_of state old
    none_failed none = omega (arith, none.0, none.1)

    -- where one of the two failed, it rises
    pub one_failed : (fault : DevFault) → IsFaultOfTwo state fault old new
        → failures_of state old < failures_of state new
    one_failed fault (inl first) = omega (arith, first.0.cause, first.1)
    one_failed fault (inr second) = omega (arith, second.0, second.1.cause)
