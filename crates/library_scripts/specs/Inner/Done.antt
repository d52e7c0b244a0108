-- Jobs that are done: the replies to their lines, one after another.
use Rattle.std.proofs.Common.{zero, suc, ◌≡◌, ◌<◌, ℕ, Bool, List, [], ◌∷◌, ◌++◌, length, get_or, set, map, Some, refl, sym, ap, subst, arith}
use Rattle.std.proofs.lemmas.List.{append_assoc, length-append, map-append}
use Rattle.std.specs.List.{slice_get}
use Rattle.tape_disk.specs.Disk.{DiskState}
use Rattle.scsi_sense.specs.declared.replies.Reply.{Reply}
use Rattle.library.specs.Seats.{SeatState}
use Rattle.vtl_script.specs.declared.lines.Line.{Line}
use Rattle.drive_commands.specs.Events.{Event, OfLibrary}
use Rattle.bay_moves.specs.Runs.{line_event}
use Rattle.library.specs.Sessions.{AnswersSession}
use Rattle.library_scripts.specs.Crews.{AnswersAllAmong}
use Rattle.library_scripts.specs.Inner.CrewsOn.{among_on}
use Rattle.library_scripts.specs.Inner.Jobs.{AreDone, IsDone, JobState, lines_of, replies_of, seats_of}

module _ {X : Type 0} where
  -- the element after a list, before another
  at_end : (front back : List X) (x : X) → slice_get (front ++ x ∷ back) (length front) ≡ Some x
  at_end [] back x = refl
  at_end (y ∷ front) back x = at_end front back x

  set_end : (front back : List X) (x y : X) → set (front ++ x ∷ back) (length front) y ≡ front ++ y ∷ back
  set_end [] back x y = refl
  set_end (z ∷ front) back x y = ap (λ (l : List X). z ∷ l) (set_end front back x y)

module _ {D : Type 0} (state : D → DiskState) (drives : List Bool) where
  -- the lines of one host, whose seat is between others, are answered one after another
  session_among : (front back : List SeatState) (before after : SeatState) (lines : List Line) (replies : List Reply)
      → AnswersSession state before lines replies after
      → AnswersAllAmong state drives (front ++ before ∷ back) (map line_event lines) replies (front ++ after ∷ back)
  session_among front back before after [] [] done = ap (λ (s : SeatState). front ++ s ∷ back) done
  session_among front back before after (line ∷ lines) (reply ∷ replies) done = (
    front ++ done.0 ∷ back,
    record {
      place = length front;
      before = before;
      after = done.0;
      seat = at_end front back before;
      served = done.1;
      seats = sym (set_end front back before done.0);
    },
    session_among front back done.0 after lines replies done.2,
  )
  session_among front back before after [] (reply ∷ replies) done = absurd done
  session_among front back before after (line ∷ lines) [] done = absurd done

  -- the lines of all jobs that are done were answered one after another
  jobs_among : (front : List SeatState) (old new : List JobState) → length new ≡ length old
      → ((i : ℕ) (d : JobState) → i < length old → IsDone state (get_or old i d) (get_or new i d))
      → AnswersAllAmong state drives (front ++ seats_of old) (map line_event (lines_of old)) (replies_of new)
      (front ++ seats_of new)
  jobs_among front [] [] long done = refl
  jobs_among front (job ∷ jobs) (job' ∷ jobs') long done =
      let one : IsDone state job job' = done zero job (omega arith) in
      let rest =
      jobs_among (front ++ job'.seat ∷ []) jobs jobs' (omega (arith, long))
      (λ i d less. done (suc i) d (omega (arith, less))) in
      let so : AnswersAllAmong state drives (front ++ job'.seat ∷ seats_of jobs) (map line_event (lines_of jobs))
      (replies_of jobs') (front ++ job'.seat ∷ seats_of jobs') =
      subst
      (λ (l : List SeatState). AnswersAllAmong state drives l (map line_event (lines_of jobs)) (replies_of jobs')
      (front ++ job'.seat ∷ seats_of jobs'))
      (append_assoc front (job'.seat ∷ []) (seats_of jobs))
      (subst
      (λ (l : List SeatState). AnswersAllAmong state drives ((front ++ job'.seat ∷ []) ++ seats_of jobs)
      (map line_event (lines_of jobs)) (replies_of jobs') l)
      (append_assoc front (job'.seat ∷ []) (seats_of jobs')) rest) in
      subst
      (λ (events : List (Event OfLibrary)). AnswersAllAmong state drives (front ++ job.seat ∷ seats_of jobs) events
      (job'.replies ++ replies_of jobs') (front ++ job'.seat ∷ seats_of jobs'))
      (sym (map-append line_event job.lines (lines_of jobs)))
      (among_on state drives (front ++ job.seat ∷ seats_of jobs) (front ++ job'.seat ∷ seats_of jobs)
      (front ++ job'.seat ∷ seats_of jobs') (map line_event job.lines) (map line_event (lines_of jobs)) job'.replies
      (replies_of jobs')
      (session_among front (seats_of jobs) job.seat job'.seat job.lines job'.replies one) so)
  jobs_among front [] (job' ∷ jobs') long done = absurd (omega (arith, long))
  jobs_among front (job ∷ jobs) [] long done = absurd (omega (arith, long))

  pub done_answers : (old new : List JobState) → length new ≡ length old → AreDone state old new
      → AnswersAllAmong state drives (seats_of old) (map line_event (lines_of old)) (replies_of new) (seats_of new)
  done_answers old new long done = jobs_among [] old new long done

  -- there is a reply for each line
  session_counts : (before after : SeatState) (lines : List Line) (replies : List Reply)
      → AnswersSession state before lines replies after → length replies ≡ length lines
  session_counts before after [] [] done = refl
  session_counts before after (line ∷ lines) (reply ∷ replies) done =
      ap (λ (n : ℕ). suc n) (session_counts done.0 after lines replies done.2)
  session_counts before after [] (reply ∷ replies) done = absurd done
  session_counts before after (line ∷ lines) [] done = absurd done

  pub done_counts : (old new : List JobState) → length new ≡ length old
      → ((i : ℕ) (d : JobState) → i < length old → IsDone state (get_or old i d) (get_or new i d))
      → length (replies_of new) ≡ length (lines_of old)
  done_counts [] [] long done = refl
  done_counts (job ∷ jobs) (job' ∷ jobs') long done =
      let one : IsDone state job job' = done zero job (omega arith) in
      let rest : length (replies_of jobs') ≡ length (lines_of jobs) =
      done_counts jobs jobs' (omega (arith, long)) (λ i d less. done (suc i) d (omega (arith, less))) in
      omega (
        arith,
        session_counts job.seat job'.seat job.lines job'.replies one,
        rest,
        length-append job'.replies (replies_of jobs'),
        length-append job.lines (lines_of jobs),
      )
  done_counts [] (job' ∷ jobs') long done = absurd (omega (arith, long))
  done_counts (job ∷ jobs) [] long done = absurd (omega (arith, long))
