-- Calls of two disks, one after another.
use Rattle.std.proofs.Common.{◌≡◌, inl, inr, ℕ, List, ◌∙◌, subst, arith}
use Rattle.std.specs.Prelude.{Option, Result, Ok, Err}
use Rattle.vtl_base.specs.declared.faults.DevFault.{DevFault}
use Rattle.tape_disk.specs.Disk.{DiskCall, DiskState, Each, IsDisk, Only, Passes}
use Rattle.tape_disk.specs.Moments.{LeavesOnly, holds_now, in_sequence, no_call, weakened}
use Rattle.gate_journal.specs.Answers.{NoneFailed}
use Rattle.gate_journal.specs.Crash.{Unwritten}
use Rattle.gate_journal.specs.Heads.{Head}
use Rattle.gate_journal.specs.Side.{CLOSED}
use Rattle.cartridge_sides.specs.declared.choosing.Counted.{Counted}
use Rattle.cartridge_sides.specs.declared.which.Which.{Which}
use Rattle.cartridge_sides.specs.Choosing.{Chooses, FaultsOfOne, FindsCounted, IsFaultOfOne, SyncedBefore, SyncsBoth}
use Rattle.cartridge_sides.specs.Inner.{FindsRead}
use Rattle.cartridge_sides.specs.Pairs.{PairStandsFor, begun}
use Rattle.cartridge_sides.specs.Passes.{IsPreparedBeside, IsShutPair}
use Rattle.cartridge_sides.proofs.GateLemmas.{none_read}
use Rattle.cartridge_sides.proofs.PassLemmas.{preparing_keeps}

-- a read after a run in which nothing new could be left
pub moments_then : (d0 d1 d2 : DiskState) → IsDisk d1 → LeavesOnly d0 d1 d0.may_leave → Unwritten d1 d2 →
    LeavesOnly d0 d2 d0.may_leave
moments_then d0 d1 d2 disk first second =
    in_sequence d0 d1 d2 d0.may_leave first
    (weakened d1 d2 d1.may_leave d0.may_leave second.moments (holds_now d0 d1 d0.may_leave disk first))

-- a fault of one of two disks, after calls of which none failed
pub fault_since : (fault : DevFault) (f0 f1 f2 s0 s1 s2 : DiskState) → NoneFailed f0 f1 → NoneFailed s0 s1 →
    IsFaultOfOne fault f1 f2 s1 s2 → IsFaultOfOne fault f0 f2 s0 s2
fault_since fault f0 f1 f2 s0 s1 s2 first second (inl (is, none)) =
    inl (record { cause = omega (arith, first, is.cause); reported = is.reported }, none ∙ second)
fault_since fault f0 f1 f2 s0 s1 s2 first second (inr (none, is)) =
    inr (none ∙ first, record { cause = omega (arith, second, is.cause); reported = is.reported })

-- only the second disk is called
pub faults_second : (f0 f1 s0 s1 : DiskState) (r : Result Unit DevFault) → NoneFailed f0 f1 → Passes s0 s1 r →
    FaultsOfOne r f0 f1 s0 s1
faults_second f0 f1 s0 s1 (Ok done) none p = (none, p.none_failed)
faults_second f0 f1 s0 s1 (Err fault) none p = inr (none, record { cause = p.cause; reported = p.reported })

-- two disks were made sure, and then read
module _ (f0 f1 f2 s0 s1 s2 : DiskState) (first : NoneFailed f0 f1) (second : NoneFailed s0 s1)
    (first_on : f0.honest → f1.honest) (second_on : s0.honest → s1.honest)
    (first_sure : f0.honest → (f1.seen ≡ f0.seen) × Only f0.seen f1.may_leave)
    (second_sure : s0.honest → (s1.seen ≡ s0.seen) × Only s0.seen s1.may_leave)
    (first_read : f1.honest → Unwritten f1 f2) (second_read : s1.honest → Unwritten s1 s2) where
  pub counted_since : (r : Result (Option Counted) DevFault) → FindsRead r f1 f2 s1 s2 → FindsCounted r f0 f2 s0 s2
  counted_since (Ok found) (none, nor, chooses) = (
    none ∙ first,
    nor ∙ second,
    (λ h image left. (first_sure h).1 image ((first_read (first_on h)).images image left)),
    (λ h image left. (second_sure h).1 image ((second_read (second_on h)).images image left)),
    (λ h k. let e = (first_sure h).0 in let f = (second_sure k).0 in
        subst (λ (l : List ℕ × List ℕ). Chooses l.0 l.1 found) (λ i. (e i, f i)) (chooses (first_on h) (second_on k))),
  )
  counted_since (Err fault) is = fault_since fault f0 f1 f2 s0 s1 s2 first second is

-- where both disks were synced first, they were whatever the result is
pub both_synced : {D : Type 0} (effect : DiskCall → Result Unit DevFault → D → D → Type 0)
    (result : Result (Option Counted) DevFault) (f0 f1 s0 s1 : D)
    → SyncedBefore effect f0 f1 → SyncedBefore effect s0 s1 → SyncsBoth effect result f0 f1 s0 s1
both_synced effect (Ok found) f0 f1 s0 s1 first second = (first, second)
both_synced effect (Err fault) f0 f1 s0 s1 first second = inr (first, second)

-- a pair is prepared where its gate is closed
module _ (first : List ℕ) (s0 s1 : DiskState) (disk : IsDisk s0) (shut : IsShutPair first) where
  pub prepared_now : (s1.seen ≡ begun CLOSED CLOSED) × Only s1.seen s1.may_leave → IsPreparedBeside first s0 s1
  prepared_now written = record { shut = λ s. written; opened = λ never. absurd (never shut) }

  pub prepared_on : LeavesOnly s0 s1 (λ image. Unit {0}) → (which : Which) (head : Head) (bodies : List (List ℕ)) →
      Each s0 (PairStandsFor which head bodies first) → LeavesOnly s0 s1 (PairStandsFor which head bodies first)
  prepared_on time which head bodies each =
      weakened s0 s1 (λ image. Unit {0}) (PairStandsFor which head bodies first) time
      (λ image any. preparing_keeps which head bodies first s0.seen image (each s0.seen disk.reads) shut)

pub prepared_before : (first : List ℕ) (s : DiskState) → IsDisk s → (IsShutPair first → ⊥) → IsPreparedBeside first s s
prepared_before first s disk never = record { shut = λ shut. absurd (never shut); opened = λ n. none_read s disk }

pub still : (s : DiskState) (P : List ℕ → Type 0) → IsDisk s → Each s P → LeavesOnly s s P
still s P disk each = no_call s P disk each
