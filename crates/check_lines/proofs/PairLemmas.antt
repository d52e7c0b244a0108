-- Two pairs of disks, one after the other.
use Rattle.std.proofs.Common.{◌≡◌, ⊎_elim, ◌<◌, sym, subst, arith}
use Rattle.vtl_base.specs.declared.faults.DevFault.{DevFault}
use Rattle.tape_disk.specs.Disk.{DiskState}
use Rattle.tape_disk.specs.TwoDisks.{TwoDisks, failures_of}
use Rattle.gate_journal.specs.Answers.{IsFault, NoneFailed}
use Rattle.cartridge.specs.Disks.{IsFaultOfTwo}

module _ {D : Type 0} (state : D → DiskState) (old new : TwoDisks D) where
  -- a fault of one of them is a failure more of both
  pub fault_counted : (fault : DevFault) → IsFaultOfTwo state fault old new
      → failures_of state old < failures_of state new
  fault_counted fault why =
      ⊎_elim
      (λ (one : IsFault fault (state old.first) (state new.first) × NoneFailed (state old.second) (state new.second)).
      omega (arith, one.0.cause, one.1))
      (λ (other : NoneFailed (state old.first) (state new.first) × IsFault fault (state old.second) (state new.second)).
      omega (arith, other.0, other.1.cause))
      why

-- what holds of two pairs of disks holds of what they are
pub moved : {T : Type 0} (P : T → T → Type 0) (a b c d : T) → a ≡ b → c ≡ d → P b d → P a c
moved {T} P a b c d e f holds = subst (λ (x : T). P x c) (sym e) (subst (λ (y : T). P b y) (sym f) holds)
