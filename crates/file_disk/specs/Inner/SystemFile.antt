-- The state of a file of the system, which no proof knows.
use Rattle.std.specs.Prelude.{ℕ, []}
use Rattle.tape_disk.specs.Disk.{DiskState}
use Rattle.file_disk.specs.RawFile.{IsAsHonest}
use Rattle.file_disk.specs.declared.system.SystemFile.{SystemFile}

-- No contract of a call of the system says what a file holds, so no honest state can be shown here: honesty is the
-- empty proposition, which no other definition, no clause and no crate above unfolds. What is proved of disks over
-- files is proved of each file that keeps the laws of `RawFile`; that this one does is a premise (own).
pub system_state : SystemFile → DiskState
system_state file = record {
  honest = ⊥;
  seen = [];
  may_leave = λ image. ⊥;
  moment = 0;
  left_since = λ t image. ⊥;
  failures = 0;
}

-- the places that its sync passes over; nothing is known of these either
pub system_passed_over : SystemFile → ℕ → Type 0
system_passed_over file place = ⊥

-- the places of it that are not synced; nothing is known of these either
pub system_unsynced : SystemFile → ℕ → Type 0
system_unsynced file place = ⊥

-- what follows from an empty proposition
pub of_honest : {P : Type 0} (file : SystemFile) → (system_state file).honest → P
unfolding system_state
of_honest file honest = absurd honest

-- honesty stays as it is
pub as_honest : (old new : SystemFile) → IsAsHonest (system_state old) (system_state new)
as_honest old new = record {
  stays_honest = λ honest. of_honest old honest;
  was_honest = λ honest. of_honest new honest;
}
