use Rattle.std.proofs.Common.{◌≡◌, ◌≢◌, ◌≤◌, ◌<◌, ⊎_elim, ℕ, List, [], ◌∷◌, ◌++◌, get_or, set, take, length, refl, sym, ap, ◌∙◌, subst, arith}
use Rattle.std.proofs.Math.Seq.{map-set_same}
use Rattle.std.proofs.lemmas.List.{get_or-map, get_or-set_other, get_or-set_same, get_or_default, length-set, take_more}
use Rattle.library.specs.Seats.{SeatState}
use Rattle.vtl_script.specs.declared.lines.Line.{Line}
use Rattle.library_scripts.specs.Inner.InPlace.{AreInPlace}
use Rattle.library_scripts.specs.Inner.Jobs.{IsDealt, JobState, seats_of}
use Rattle.library_scripts.proofs.CrewLemmas.{host_at, same_or_not}
use Rattle.library_scripts.proofs.JobLemmas.{dealt_none, dealt_on, jobs_are, lines_set, no_lines}
use Rattle.library_scripts.proofs.phases.deal_all.Goals as goal

pub loop-line-init : goal.loop-line-init
loop-line-init g c = record {
  seats = refl;
  dealt = λ k d less. dealt_none _ (c.requires.none k d less).0 (c.requires.none k d less).1;
  lines = no_lines c.args.jobs.now (λ k d less. (c.requires.none k d less).0);
  behind = λ k e less most. (c.requires.none k e less).0;
  left = λ k d more. refl;
}

pub returns-in_err-add-clause-seats : goal.returns-in_err-add-clause-seats
returns-in_err-add-clause-seats g c =
    map-set_same (λ (j : JobState). j.seat) c.loop-line.jobs c.job_place-place.result c.add.new.self
    c.index-jobs-place.result c.add.ensures.same.0
    ∙ c.loop-line.invariant.seats

pub loop-line-preserved : goal.loop-line-preserved
loop-line-preserved g c =
    let inv = c.loop-line.invariant in
    let jobs = c.loop-line.jobs in
    let lines = c.args.lines.now in
    let at = c.loop-line.line-index in
    let item = c.line-item.result in
    let line = get_or c.loop-line.line-items at item in
    let place = c.job_place-place.result in
    let job = c.index-jobs-place.result in
    let new = c.add.new.self in
    let next : (d : Line) → get_or lines at d ≡ line =
    λ d. get_or_default lines at d item c.loop-line-test.true ∙ sym (inv.left at item (omega arith)) in
    let places : AreInPlace (seats_of jobs) = subst AreInPlace (sym inv.seats) c.requires.places in
    let within : place < length jobs = omega (arith, jobs_are jobs places, c.job_place-place.ensures.range) in
    let held = get_or jobs place job in
    let host : line.host ≡ held.seat.nexus =
    host_at (seats_of jobs) place job.seat line.host places c.job_place-place.ensures.range
    c.job_place-place.ensures.place
    ∙ ap (λ (s : SeatState). s.nexus) (get_or-map (λ (j : JobState). j.seat) jobs place job job.seat within) in
    let now : IsDealt new =
    dealt_on held new line (inv.dealt place job within) c.add.ensures.same.0 c.add.ensures.same.1
    c.in_ok-add.ensures.line c.in_ok-add.ensures.room host in
    let grown : new.lines ≡ held.lines ++ line ∷ [] = c.in_ok-add.ensures.line in
    let before : (k i : ℕ) (d : Line) → place < k → i < at → (get_or lines i d).host ≤ k =
    λ k i d more less.
    omega (
      arith,
      c.requires.rising i at d (omega (arith, less)) c.loop-line-test.true,
      ap (λ (l : Line). l.host) (next d),
      c.job_place-place.ensures.place,
      more,
    ) in
    record {
      seats =
          map-set_same (λ (j : JobState). j.seat) jobs place new job c.add.ensures.same.0 ∙ inv.seats;
      dealt = λ k d less. ⊎_elim (λ (here : k ≡ place).
          subst (λ (i : ℕ). IsDealt (get_or (set jobs place new) i d)) (sym here)
          (subst IsDealt (sym (get_or-set_same jobs place new d within)) now))
          (λ (other : k ≢ place). subst IsDealt (sym (get_or-set_other jobs place k new d other))
          (inv.dealt k d (omega (arith, less, length-set jobs place new))))
          (same_or_not k place);
      lines =
          lines_set jobs place new job line within grown
          (λ k d more less. inv.behind k d less (λ i e. before k i e more))
          ∙ ap (λ (l : List Line). l ++ line ∷ []) inv.lines
          ∙ sym (take_more lines at line c.loop-line-test.true
          ∙ ap (λ (l : Line). take at lines ++ l ∷ []) (next line));
      behind = λ k e less most.
          let past : place < k = omega (
            arith,
            most at line (omega arith),
            ap (λ (l : Line). l.host) (next line),
            c.job_place-place.ensures.place,
          ) in
          ap (λ (j : JobState). j.lines)
          (get_or-set_other jobs place k new e (λ same. absurd (omega (arith, same, past))))
          ∙ inv.behind k e (omega (arith, less, length-set jobs place new)) (λ i d few. most i d (omega (arith, few)));
      left = λ k d more. get_or-set_other c.loop-line.line-items at k c.add.new.line d
          (λ same. absurd (omega (arith, same, more))) ∙ inv.left k d (omega (arith, more));
    }
