-- The run of a script over a library that threads share.
use Rattle.std.specs.Prelude.{◌≡◌, ℕ, List, Option, Result, IfOk, map}
use Rattle.tape_disk.specs.Disk.{DiskState}
use Rattle.library.specs.Seats.{SeatState}
use Rattle.vtl_script.specs.declared.faults.ScriptFault.{ScriptFault}
use Rattle.vtl_script.specs.Runs.{RunsScript}
use Rattle.bay_moves.specs.Elements.{BayState}
use Rattle.library.specs.Counts.{has_drive, new_seat, which_are_there}
use Rattle.library.specs.Ends.{AddsUp, counts_of, sum_of_counts, sum_of_seats}
use Rattle.library.specs.declared.finishing.FinishError.{FinishError}
use Rattle.library_scripts.specs.Crews.{AnswersCrew}

module _ {D : Type 0} (state : D → DiskState) where
  -- A script was run for hosts with new seats, and for an operator who had made no move, over a library with these
  -- drives, and then the library ended. However the run ended, the sum of the drives' counts is that of the seats'
  -- amounts. The answers and the moves that are returned are those of the seats and of the operator after the run, so
  -- none was added behind it. Where the library ended well, the count of each drive is returned (own).
  pub record RunsShared (bays : List (Option (BayState D))) (hosts : List ℕ) (left before now : Option (List ℕ))
      (outcome : Result (Unit {0}) ScriptFault) (bays' : List (Option (BayState D)))
      (counts : Result (List (Option ℕ)) FinishError) (answers moves : ℕ) : Type 0 where
    pub seats : List SeatState
    pub moved : ℕ
    pub runs :
        RunsScript (has_drive (which_are_there bays)) (AnswersCrew state)
        (record { drives = which_are_there bays; seats = map new_seat hosts; moved = 0 }) left before
        (record { drives = which_are_there bays; seats = seats; moved = moved }) now outcome
    pub reported : IfOk counts (λ counted. counted ≡ counts_of bays')
    pub sums : sum_of_counts (counts_of bays') ≡ sum_of_seats seats
    pub used : AddsUp seats moved answers moves
