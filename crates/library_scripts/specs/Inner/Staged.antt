-- The hosts of a library, by their jobs.
use Rattle.std.specs.Prelude.{List}
use Rattle.std.specs.List.{All}
use Rattle.scsi_sense.specs.declared.replies.Reply.{Reply}
use Rattle.library_scripts.specs.Crews.{CrewState}
use Rattle.library_scripts.specs.Inner.Jobs.{IsReady, StageState, replies_of, seats_of}

-- which drives there are, the seats, and the operator's moves
abbrev pub crew_of : StageState → CrewState
crew_of stage = record { drives = stage.drives; seats = seats_of stage.jobs; moved = stage.moved }

-- each job is ready for these drives
abbrev pub AreReady : StageState → Type 0
AreReady stage = All (IsReady stage.drives) stage.jobs

-- the replies of all jobs
abbrev pub replies_at : StageState → List Reply
replies_at stage = replies_of stage.jobs
