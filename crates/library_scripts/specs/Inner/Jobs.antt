-- The jobs of the hosts in a phase.
use Rattle.std.specs.Prelude.{◌≡◌, ◌≤◌, ◌<◌, ℕ, nat_eq, Bool, true, List, [], flat_map, map, length, slice_index_or}
use Rattle.std.specs.List.{list_all}
use Rattle.tape_disk.specs.Disk.{DiskState}
use Rattle.library.specs.Seats.{SeatState}
use Rattle.scsi_sense.specs.declared.replies.Reply.{Reply}
use Rattle.vtl_script.specs.declared.lines.Line.{Line}
use Rattle.library.specs.Counts.{has_drive}
use Rattle.library.specs.Sessions.{AnswersSession}

-- the seat of a host, its lines in a phase, their replies, and the room for replies
pub record JobState : Type 0 where
  pub seat : SeatState
  pub lines : List Line
  pub replies : List Reply
  pub room : ℕ

-- the lines of a job are its host's, none has a reply yet, and there is room for all replies
pub record IsDealt (job : JobState) : Type 0 where
  pub host : list_all (λ line. nat_eq line.host job.seat.nexus) job.lines ≡ true
  pub none : job.replies ≡ []
  pub room : length job.lines ≤ job.room

-- and each line names a configured drive
pub record IsReady (drives : List Bool) (job : JobState) : Type 0 where
  pub dealt : IsDealt job
  pub configured : list_all (λ line. has_drive drives line.drive) job.lines ≡ true

-- the seats of some jobs, their lines and their replies
abbrev pub seats_of : List JobState → List SeatState
seats_of jobs = map (λ job. job.seat) jobs

abbrev pub lines_of : List JobState → List Line
lines_of jobs = flat_map (λ job. job.lines) jobs

abbrev pub replies_of : List JobState → List Reply
replies_of jobs = flat_map (λ job. job.replies) jobs

-- which drives a library has, the job of each host, and how many moves the operator made
pub record StageState : Type 0 where
  pub drives : List Bool
  pub jobs : List JobState
  pub moved : ℕ

-- these lines were dealt to the jobs of their hosts, whose seats stay, and nothing was moved
pub record DealsLines (old : StageState) (lines : List Line) (new : StageState) : Type 0 where
  pub drives : new.drives ≡ old.drives
  pub seats : seats_of new.jobs ≡ seats_of old.jobs
  pub dealt : lines_of new.jobs ≡ lines
  pub moved : new.moved ≡ old.moved

module _ {D : Type 0} (state : D → DiskState) where
  -- a job is done: its lines were answered for its host
  abbrev pub IsDone : JobState → JobState → Type 0
  IsDone old new = AnswersSession state old.seat old.lines new.replies new.seat

  -- each job is done
  abbrev pub AreDone : List JobState → List JobState → Type 0
  AreDone old new =
      (i : ℕ) (d : JobState) → i < length old → IsDone (slice_index_or old i d) (slice_index_or new i d)

  -- and each is done, with the same drives, and nothing was moved
  pub record IsServedStage (old new : StageState) : Type 0 where
    pub drives : new.drives ≡ old.drives
    pub long : length new.jobs ≡ length old.jobs
    pub done : AreDone old.jobs new.jobs
    pub moved : new.moved ≡ old.moved
