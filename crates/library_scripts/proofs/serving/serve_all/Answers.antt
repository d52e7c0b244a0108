use Rattle.std.proofs.Common.{rules, ◌≡◌, ◌++◌, List, length, take, drop, sym, subst}
use Rattle.std.specs.List.{All}
use Rattle.library_scripts.specs.Inner.InPlace.{AreInPlace}
use Rattle.library_scripts.specs.Inner.Jobs.{AreDone, IsReady, JobState, StageState, seats_of}
use Rattle.library_scripts.proofs.DoneLemmas.{done_in_place, refilled}
use Rattle.library_scripts.proofs.serving.serve_all.Goals as goal

pub serve_jobs-requires-after_bounds : goal.serve_jobs-requires-after_bounds
serve_jobs-requires-after_bounds g c κs within =
    subst (λ (l : List JobState). All (IsReady c.stage.inside.library.now) l) (sym c.as_mut_slice.ensures.value)
    (subst (λ (s : StageState). All (IsReady s.drives) s.jobs) (sym c.stage.view_is) c.requires)

pub invariant_of-stage : goal.invariant_of-stage
invariant_of-stage g c =
    let old = c.stage.inside.jobs.items in
    let new = c.serve_jobs.new.jobs in
    let long : length new ≡ length old = search rules in
    let back : take c.stage.inside.jobs.len (new ++ drop (length new) old) ≡ new =
    refilled c.stage.inside.jobs.len new old (search rules) in
    let done : AreDone g.D.Disk.state old new = search rules in
    subst (λ (l : List JobState). AreInPlace (seats_of l)) (sym back)
    (done_in_place g.D.Disk.state old new long done c.stage.invariant)
