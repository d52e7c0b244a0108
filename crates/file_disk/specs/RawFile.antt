-- What the calls of a file do to it, where the system is honest.
use Rattle.std.specs.Prelude.{◌≡◌, ◌⊎◌, ℕ, ◌<◌, ◌≤◌, List, length, take, Result, IfOk, IfErr, OnOk, OnErr}
use Rattle.tape_disk.specs.Disk.{DiskState, Follows, Smeared, Cut, Only, overwritten}
use Rattle.file_disk.specs.declared.raw.CallFailed.{CallFailed}
use Rattle.file_disk.specs.declared.raw.Stop.{Stop}
use Rattle.file_disk.specs.declared.raw.Stop.TheVariants.{Interrupted}

-- honesty stays as it is (own)
pub record IsAsHonest (old new : DiskState) : Type 0 where
  pub stays_honest : old.honest → new.honest
  pub was_honest : new.honest → old.honest

-- of these places, over which a sync passes, there is none: a sync reaches all of the file (own)
abbrev pub ReachesAll : (ℕ → Type 0) → Type 0
ReachesAll passed_over = (place : ℕ) → passed_over place → ⊥

-- a sync passes over no place that it did not pass over before (own)
abbrev pub ReachesStill : (old new : ℕ → Type 0) → Type 0
ReachesStill old new = (place : ℕ) → new place → old place

-- a sync passes over no place from one to another, the second one not counted (own)
abbrev pub ReachesRange : (from to : ℕ) → (ℕ → Type 0) → Type 0
ReachesRange from to passed_over = (place : ℕ) → passed_over place → from ≤ place → to ≤ place

-- there is none of these places (own)
abbrev pub NoneOf : (ℕ → Type 0) → Type 0
NoneOf places = (place : ℕ) → places place → ⊥

-- the new places are old ones (own)
abbrev pub AddsNone : (old new : ℕ → Type 0) → Type 0
AddsNone old new = (place : ℕ) → new place → old place

-- the new places are old ones, or lie from one to another, the second one not counted (own)
abbrev pub AddsRange : (from to : ℕ) (old new : ℕ → Type 0) → Type 0
AddsRange from to old new = (place : ℕ) → new place → old place ⊎ ((from ≤ place) × (place < to))

-- after a sync that failed a later one passes over no other places than before, and those that were written since the
-- last good one (own)
abbrev pub LeavesBehind : (passed_over unsynced new : ℕ → Type 0) → Type 0
LeavesBehind passed_over unsynced new = (place : ℕ) → new place → passed_over place ⊎ unsynced place

-- A call that writes the first of the bytes, from a place on. What it wrote a read gives; a call that was
-- interrupted wrote none. After an error a read may give any bytes in the range, and from the old end on; so may
-- a crash, until a sync. No write makes sure what was not sure before (own, of POSIX's pwrite).
pub record WritesSomeBytes (at : ℕ) (bytes : List ℕ) (result : Result ℕ Stop) (old new : DiskState) : Type 0 where
  pub written : IfOk result (λ count. new.seen ≡ overwritten at (take count bytes) old.seen)
  pub none : IfErr result (λ stop. stop ≡ Interrupted → new.seen ≡ old.seen)
  pub smeared : OnErr result (Smeared at (length bytes) old.seen new.seen)
  pub crash : Follows (Smeared at (length bytes)) old.may_leave new.may_leave
  pub keeps : (image : List ℕ) → old.may_leave image → new.may_leave image

-- A call that removes what stands from a place on (own, of POSIX's ftruncate).
pub record CutsFile (len : ℕ) (result : Result Unit CallFailed) (old new : DiskState) : Type 0 where
  pub done : OnOk result (new.seen ≡ take len old.seen)
  pub smeared : OnErr result (Cut len old.seen new.seen)
  pub crash : Follows (Cut len) old.may_leave new.may_leave

-- A call that changes nothing of what a read gives, and makes all of it sure where it passes over no place. One that
-- failed makes nothing sure, not even what a read gives (own, of POSIX's fsync).
pub record SyncsFile (passed_over : ℕ → Type 0) (result : Result Unit CallFailed) (old new : DiskState) : Type 0 where
  pub seen : OnOk result (new.seen ≡ old.seen)
  pub durable : ReachesAll passed_over → OnOk result (Only old.seen new.may_leave)
  pub crash : (image : List ℕ) → new.may_leave image → old.may_leave image
