-- The state of a disk at one moment, and what its calls do to it.
use Rattle.std.specs.Prelude.{◌≡◌, ◌⊎◌, ℕ, ◌+◌, ◌-◌, ◌<◌, ◌≤◌, ◌^◌, min, List, ◌++◌, length, take, drop, Result, OnOk, OnErr, IfErr}
use Rattle.vtl_base.specs.declared.faults.DevFault.{DevFault}

-- All that a contract sees of a disk. Its facts about bytes hold for an honest disk alone (own).
pub record DiskState : Type 1 where
  -- the disk obeys the disk model, and nobody else writes it
  pub honest : Type 0
  -- the bytes that reads return
  pub seen : List ℕ
  -- the images that a crash may leave now
  pub may_leave : List ℕ → Type 0
  -- a clock, which each call of the device moves on
  pub moment : ℕ
  -- the images that a crash at some moment from that one on might have left
  pub left_since : ℕ → List ℕ → Type 0
  -- how many calls have failed, without a bound
  pub failures : ℕ

-- a call of a disk, with its arguments (own)
pub data DiskCall : Type 0 where
  ReadAt : (at count : ℕ) → DiskCall
  WriteAt : (at : ℕ) (bytes : List ℕ) → DiskCall
  CutAt : (len : ℕ) → DiskCall
  SyncAll : DiskCall

-- the second list begins with the first (own)
abbrev pub IsPrefixOf : List ℕ → List ℕ → Type 0
IsPrefixOf xs ys = (rest : List ℕ) × (ys ≡ xs ++ rest)

-- the old bytes with these written at a place, or at the end where that comes first (own)
abbrev pub overwritten : ℕ → List ℕ → List ℕ → List ℕ
overwritten at bytes old = take at old ++ bytes ++ drop (at + length bytes) old

-- A write of n bytes that did not become safe: any bytes in its range, and from the old end on; the others stay (own).
pub record Smeared (at n : ℕ) (old new : List ℕ) : Type 0 where
  pub before : IsPrefixOf (take at old) new
  pub after : IsPrefixOf (drop (at + n) old) (drop (at + n) new)
  pub no_shorter : length old ≤ length new

-- A cut that did not become safe: any bytes past it, or none (own).
abbrev pub Cut : ℕ → List ℕ → List ℕ → Type 0
Cut at old new = IsPrefixOf (take at old) new

-- each new image is an old one after the step (own)
abbrev pub Follows : (List ℕ → List ℕ → Type 0) → (List ℕ → Type 0) → (List ℕ → Type 0) → Type 0
Follows step old new = (image : List ℕ) → new image → (before : List ℕ) × old before × step before image

-- this is the only image (own)
abbrev pub Only : List ℕ → (List ℕ → Type 0) → Type 0
Only image images = (other : List ℕ) → images other → other ≡ image

-- each image that a crash may leave now has P (own)
abbrev pub Each : DiskState → (List ℕ → Type 0) → Type 0
Each disk P = (image : List ℕ) → disk.may_leave image → P image

-- Time passes in a call: a crash since t might have left what it might have left before, or what it may leave now
-- (own).
pub record Elapses (old new : DiskState) : Type 0 where
  pub later : old.moment < new.moment
  pub nothing_else : (t : ℕ) (image : List ℕ) → t ≤ old.moment →
      new.left_since t image → old.left_since t image ⊎ new.may_leave image
  pub keeps : (t : ℕ) (image : List ℕ) → t ≤ old.moment → old.left_since t image → new.left_since t image

-- What holds of calls after every result: honesty stays, and failures are counted (own).
pub record Keeps (old new : DiskState) : Type 0 where
  pub stays_honest : old.honest → new.honest
  pub was_honest : new.honest → old.honest
  pub counted : old.failures ≤ new.failures

-- The same for one call, or for calls one after another that end at the first fault. Ok means that no call failed; a
-- fault means that one did, and has the count of failures (own).
pub record Passes {T : Type 0} (old new : DiskState) (result : Result T DevFault) : Type 0 where
  pub stays_honest : old.honest → new.honest
  pub was_honest : new.honest → old.honest
  pub none_failed : OnOk result (new.failures ≡ old.failures)
  pub cause : OnErr result (old.failures < new.failures)
  pub reported : IfErr result (λ fault. fault.failures ≡ min new.failures (2 ^ 64 - 1))

-- A call that writes nothing (own).
pub record Same (old new : DiskState) : Type 0 where
  pub seen : new.seen ≡ old.seen
  pub crash : (image : List ℕ) → new.may_leave image → old.may_leave image

-- A write: reads return the bytes, or after a fault any bytes in their place and from the old end on. Until a sync a
-- crash may leave any bytes there (own).
pub record Writes (at : ℕ) (bytes : List ℕ) (result : Result Unit DevFault) (old new : DiskState) : Type 0 where
  pub written : OnOk result (new.seen ≡ overwritten at bytes old.seen)
  pub smeared : OnErr result (Smeared at (length bytes) old.seen new.seen)
  pub crash : Follows (Smeared at (length bytes)) old.may_leave new.may_leave

-- A cut: reads return the bytes before it, and after a fault any bytes after that. Until a sync a crash may leave any
-- bytes there (own).
pub record Cuts (len : ℕ) (result : Result Unit DevFault) (old new : DiskState) : Type 0 where
  pub done : OnOk result (new.seen ≡ take len old.seen)
  pub smeared : OnErr result (Cut len old.seen new.seen)
  pub crash : Follows (Cut len) old.may_leave new.may_leave

-- A sync: a crash leaves what reads return. A failed one makes nothing sure, not even what reads return, which is then
-- some image that a crash might have left before (own).
pub record Syncs (result : Result Unit DevFault) (old new : DiskState) : Type 0 where
  pub durable : OnOk result (Only old.seen new.may_leave)
  pub crash : (image : List ℕ) → new.may_leave image → old.may_leave image

-- What holds of an honest disk at each moment (own).
pub record IsDisk (disk : DiskState) : Type 0 where
  pub reads : disk.may_leave disk.seen
  pub counts_now : (t : ℕ) (image : List ℕ) → t ≤ disk.moment → disk.may_leave image → disk.left_since t image
  pub only_now : (image : List ℕ) → disk.left_since disk.moment image → disk.may_leave image
