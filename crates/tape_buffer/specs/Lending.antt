-- How much is taken by disks that go away from a medium.
use Rattle.std.specs.Prelude.{◌≡◌, ◌⊎◌, ◌≤◌, ◌+◌, List, [], length, sum_by, true, false, Bool, refl}
use Rattle.std.proofs.Common.{sym, ◌∙◌, ap, arith, inl, inr, ⊎_elim}
use Rattle.vtl_base.specs.declared.limits.TheConstants.{BUFFER_BYTES, BUFFER_RECORDS}
use Rattle.tape_disk.specs.Disk.{DiskState}
use Rattle.volume_core.specs.Medium.{MediumState, block_bytes}
use Rattle.cartridge.specs.State.{ClosedCartridge, OpenCartridge}
use Rattle.tape_buffer.specs.declared.budgets.Budget.{Budget}
use Rattle.tape_buffer.specs.declared.holding.Holding.{Holding}
use Rattle.tape_buffer.specs.declared.holding.Holding.TheVariants as Holdings
use Rattle.tape_buffer.specs.Aways.{IsCut, IsRoomFor}
use Rattle.tape_buffer.specs.State.{BufferState, state_held, state_of}
use Rattle.tape_buffer.specs.Taking.{DisksState, LendsFrom, LendsHeld}

-- of what disks take all may be accepted, or no change
pub cut_less : (left cut : Budget) → IsCut left cut
    → (cut.records ≤ left.records) × (cut.bytes ≡ left.bytes) × (cut.room ≡ left.room)
cut_less left cut is = (
  ⊎_elim (λ same. omega (arith, ap (λ (b : Budget). b.records) same))
      (λ none. omega (arith, ap (λ (b : Budget). b.records) none)) is,
  ⊎_elim (λ same. ap (λ (b : Budget). b.bytes) same) (λ none. ap (λ (b : Budget). b.bytes) none) is,
  ⊎_elim (λ same. ap (λ (b : Budget). b.room) same) (λ none. ap (λ (b : Budget). b.room) none) is,
)

not_both : {P : Type 0} (b : Bool) → b ≡ false → b ≡ true → P
not_both b off on = let e : true ≡ false = sym on ∙ off in absurd (cc)

-- what disks take that go away from a medium (own)
pub record LendFacts (seen : MediumState) (left : Budget) : Type 0 where
  pub rests : seen.awake ≡ false → left.records ≡ 0
  pub quiet : seen.awake ≡ false → seen.pending ≡ []
  pub failed : seen.failed ≡ true → left.records ≡ 0
  pub exact : (left.records + length seen.pending ≡ BUFFER_RECORDS) ⊎ (left.records ≡ 0)
  pub bytes : seen.awake ≡ true → left.bytes + sum_by block_bytes seen.pending ≡ BUFFER_BYTES
  pub room : seen.awake ≡ true → IsRoomFor seen.room left.room seen.pending

-- disks that go away take so much
pub lend_facts : {D : Type 0} (state : D → DiskState) (old : BufferState D) (new : DisksState D) → LendsFrom old new
    → LendFacts (state_of state old) new.left
lend_facts state old new lends = by old.held new.buffer.held lends.held
  where
    by : (held held' : Holding (OpenCartridge _) (ClosedCartridge _)) → LendsHeld held old.pending held' new.left
        → LendFacts (state_held state held old.pending) new.left
    by (Holdings.Open c) (Holdings.Open c') lent =
        record {
          rests = λ asleep. absurd (cc);
          quiet = λ asleep. absurd (cc);
          failed = λ failed. ⊎_elim (λ works. not_both c.failed works.0 failed) (λ none. none.0) lent.records;
          exact = ⊎_elim (λ works. inl works.1) (λ none. inr none.0) lent.records;
          bytes = λ awake. lent.bytes;
          room = λ awake. omega (arith, lent.room);
        }
    by (Holdings.Closed c) (Holdings.Closed c') lent =
        record {
          rests = λ asleep. lent.1;
          quiet = λ asleep. refl;
          failed = λ failed. lent.1;
          exact = inr lent.1;
          bytes = λ awake. absurd (cc);
          room = λ awake. absurd (cc);
        }
    by (Holdings.Open c) (Holdings.Closed c') lent = absurd lent
    by (Holdings.Open c) (Holdings.Away a) lent = absurd lent
    by (Holdings.Closed c) (Holdings.Open c') lent = absurd lent
    by (Holdings.Closed c) (Holdings.Away a) lent = absurd lent
    by (Holdings.Away a) held' lent = absurd lent
