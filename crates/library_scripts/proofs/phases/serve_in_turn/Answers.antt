use Rattle.std.proofs.Common.{◌≡◌, ◌<◌, ◌∷◌, [], ◌++◌, ℕ, ◌+◌, List, get_or, set, take, length, ap, subst, sym, ◌∙◌, arith}
use Rattle.std.proofs.Math.Seq.{map-set}
use Rattle.std.proofs.lemmas.List.{get_or-map, get_or-set_other, get_or_default, length-map, take_more}
use Rattle.library.specs.Seats.{SeatState}
use Rattle.vtl_script.specs.declared.lines.Line.{Line}
use Rattle.bay_moves.specs.Runs.{line_request}
use Rattle.library.specs.Served.{IsServed}
use Rattle.library_scripts.specs.Crews.{AnswersSeat}
use Rattle.library_scripts.specs.Inner.Jobs.{JobState, seats_of}
use Rattle.library_scripts.proofs.CrewLemmas.{host_at, line_at, line_in_place, lines_on}
use Rattle.library_scripts.proofs.JobLemmas.{jobs_are}
use Rattle.library_scripts.proofs.phases.serve_in_turn.Goals as goal

pub serve_line-reply-requires-clause-host : goal.serve_line-reply-requires-clause-host
serve_line-reply-requires-clause-host g c =
    let jobs = c.loop-line.jobs in
    let place = c.job_place-place.result in
    let job = c.index-jobs-place.result in
    let places = c.loop-line.invariant.places in
    let inside : place < length jobs = omega (arith, jobs_are jobs places, c.job_place-place.ensures.range) in
    host_at (seats_of jobs) place job.seat _ places c.job_place-place.ensures.range c.job_place-place.ensures.place
    ∙ ap (λ (s : SeatState). s.nexus) (get_or-map (λ (j : JobState). j.seat) jobs place job job.seat inside)

pub loop-line-preserved : goal.loop-line-preserved
loop-line-preserved g c =
    let inv = c.loop-line.invariant in
    let state = g.D.Disk.state in
    let lines = c.args.lines.now in
    let at = c.loop-line.line-index in
    let item = c.line-item.result in
    let line = get_or c.loop-line.line-items at item in
    let jobs = c.loop-line.jobs in
    let place = c.job_place-place.result in
    let job = c.index-jobs-place.result in
    let held = get_or jobs place job in
    let new = c.serve_line-reply.new.self in
    let seats = seats_of jobs in
    let after = new.seat in
    let reply = c.serve_line-reply.result in
    let next : get_or lines at line ≡ line =
    get_or_default lines at line item c.loop-line-test.true ∙ sym (inv.left at item (omega arith)) in
    let taken : take (at + 1) lines ≡ take at lines ++ line ∷ [] =
    take_more lines at line c.loop-line-test.true ∙ ap (λ (x : Line). take at lines ++ x ∷ []) next in
    let inside : place < length jobs = omega (arith, jobs_are jobs inv.places, c.job_place-place.ensures.range) in
    let within : place < length seats =
    omega (arith, inside, length-map jobs (λ (j : JobState). j.seat)) in
    let was : get_or seats place job.seat ≡ held.seat =
    get_or-map (λ (j : JobState). j.seat) jobs place job job.seat inside in
    let served : IsServed state (line_request line) (get_or seats place job.seat) reply after =
    subst (λ (s : SeatState). IsServed state (line_request line) s reply after) (sym was) c.serve_line-reply.ensures in
    let put : seats_of (set jobs place new) ≡ set seats place after =
    map-set (λ (j : JobState). j.seat) jobs place new in
    let one : AnswersSeat state seats (line_request line) reply (seats_of (set jobs place new)) =
    subst (λ (l : List SeatState). AnswersSeat state seats (line_request line) reply l) (sym put)
    (line_at state seats place job.seat after line reply within served) in
    let so =
    lines_on state c.args.library.now (seats_of c.args.jobs.now) seats (seats_of (set jobs place new)) (take at lines)
    line c.loop-line.replies.items reply inv.answered one in
    let pushed = rw c.unwrap.ensures at c.push.ensures.items in
    let longer = rw c.unwrap.ensures at c.push.ensures.len in
    record {
      answered = rw (taken, pushed) so;
      counted = longer ∙ ap (λ (n : ℕ). n + 1) inv.counted;
      room = omega (arith, c.push.ensures.capacity, inv.room);
      places = line_in_place state seats (seats_of (set jobs place new)) line reply one inv.places;
      left = λ k d more. get_or-set_other c.loop-line.line-items at k c.serve_line-reply.new.line d
          (λ same. absurd (omega (arith, same, more))) ∙ inv.left k d (omega (arith, more));
    }
