-- The hosts of a library after each has carried out the lines that were dealt to it.
use Rattle.std.proofs.Common.{◌≡◌, List, [], ◌∷◌, length, map, ap, sym, subst, ◌∙◌, arith}
use Rattle.std.proofs.lemmas.List.{append-nil}
use Rattle.tape_disk.specs.Disk.{DiskState}
use Rattle.library.specs.Seats.{SeatState}
use Rattle.vtl_script.specs.declared.lines.Line.{Line}
use Rattle.vtl_script.specs.declared.items.Item.TheVariants.{Phase}
use Rattle.drive_commands.specs.Events.{Event, OfLibrary}
use Rattle.bay_moves.specs.Runs.{line_event}
use Rattle.library_scripts.specs.Crews.{AnswersAllAmong, AnswersCrew}
use Rattle.library_scripts.specs.Inner.Jobs.{DealsLines, IsServedStage, StageState, lines_of, seats_of}
use Rattle.library_scripts.specs.Inner.Staged.{crew_of, replies_at}
use Rattle.library_scripts.specs.Inner.Done.{done_answers, done_counts}

module _ {D : Type 0} (state : D → DiskState) where
  -- they have answered the phase
  pub stage_answered : (old dealt served : StageState) (lines : List Line) → DealsLines old lines dealt
      → IsServedStage state dealt served
      → AnswersCrew state (crew_of old) (Phase lines ∷ []) (replies_at served) (crew_of served)
  stage_answered old dealt served lines deals serves = record {
    drives = serves.drives ∙ deals.drives;
    answered =
        subst
        (λ (events : List (Event OfLibrary)).
        AnswersAllAmong state old.drives (seats_of old.jobs) events (replies_at served) (seats_of served.jobs))
        (ap (λ (l : List Line). map line_event l) deals.dealt ∙ sym (append-nil (map line_event lines)))
        (subst
        (λ (seats : List SeatState).
        AnswersAllAmong state old.drives seats (map line_event (lines_of dealt.jobs)) (replies_at served)
        (seats_of served.jobs))
        deals.seats (done_answers state old.drives dealt.jobs served.jobs serves.long serves.done));
    moved = omega (arith, serves.moved, deals.moved);
  }

  -- and each line has one reply
  pub stage_counted : (old dealt served : StageState) (lines : List Line) → DealsLines old lines dealt
      → IsServedStage state dealt served → length (replies_at served) ≡ length lines
  stage_counted old dealt served lines deals serves =
      done_counts state dealt.drives dealt.jobs served.jobs serves.long serves.done
      ∙ ap (λ (l : List Line). length l) deals.dealt
