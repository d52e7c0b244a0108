-- A crash at any moment of a run of calls, for any property of images.
use Rattle.std.specs.Prelude.{◌⊎◌, ℕ, ◌≤◌, List}
use Rattle.tape_disk.specs.Disk.{DiskState, Each, Elapses, IsDisk}
use Rattle.std.proofs.Common.{inl, inr, ⊎_elim, arith}

-- Each image that a crash since the old moment might have left has P (own).
pub record LeavesOnly (old new : DiskState) (P : List ℕ → Type 0) : Type 0 where
  pub later : old.moment ≤ new.moment
  pub each : (image : List ℕ) → new.left_since old.moment image → P image
  -- for a run that began earlier
  pub before : (t : ℕ) (image : List ℕ) → t ≤ old.moment → new.left_since t image → old.left_since t image ⊎ P image

-- nothing was called
pub no_call : (disk : DiskState) (P : List ℕ → Type 0) → IsDisk disk → Each disk P → LeavesOnly disk disk P
no_call disk P is_disk here = record {
  later = omega arith;
  each = λ image left. here image (is_disk.only_now image left);
  before = λ t image le left. inl left;
}

-- one more call
pub one_more_call : (old mid new : DiskState) (P : List ℕ → Type 0) →
    LeavesOnly old mid P → Elapses mid new → Each new P → LeavesOnly old new P
one_more_call old mid new P so_far time here = record {
  later = omega (arith, so_far.later, time.later);
  each = λ image left. ⊎_elim (so_far.each image) (here image) (time.nothing_else old.moment image so_far.later left);
  before = λ t image le left.
      ⊎_elim (so_far.before t image le) (λ leaves. inr (here image leaves))
      (time.nothing_else t image (omega (arith, le, so_far.later)) left);
}

-- two runs, one after another
pub in_sequence : (old mid new : DiskState) (P : List ℕ → Type 0) →
    LeavesOnly old mid P → LeavesOnly mid new P → LeavesOnly old new P
in_sequence old mid new P first second = record {
  later = omega (arith, first.later, second.later);
  each = λ image left. ⊎_elim (first.each image) (λ has. has) (second.before old.moment image first.later left);
  before = λ t image le left.
      ⊎_elim (first.before t image le) inr (second.before t image (omega (arith, le, first.later)) left);
}

-- a layer above says the same in its own terms
pub weakened : (old new : DiskState) (P Q : List ℕ → Type 0) →
    LeavesOnly old new P → ((image : List ℕ) → P image → Q image) → LeavesOnly old new Q
weakened old new P Q run means = record {
  later = run.later;
  each = λ image left. means image (run.each image left);
  before = λ t image le left. ⊎_elim inl (λ has. inr (means image has)) (run.before t image le left);
}

-- what holds at each moment since holds now
pub holds_now : (old new : DiskState) (P : List ℕ → Type 0) → IsDisk new → LeavesOnly old new P → Each new P
holds_now old new P is_disk run image left = run.each image (is_disk.counts_now old.moment image run.later left)
