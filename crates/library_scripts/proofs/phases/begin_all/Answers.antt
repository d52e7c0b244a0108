use Rattle.std.proofs.Common.{◌≡◌, ◌<◌, ⊎_elim, ℕ, [], get_or, set, length, sym, ap, ◌∙◌, subst, arith}
use Rattle.std.proofs.Math.Seq.{map-set_same}
use Rattle.std.proofs.lemmas.List.{get_or-set_other, get_or-set_same}
use Rattle.library_scripts.specs.Inner.Jobs.{JobState}
use Rattle.library_scripts.proofs.CrewLemmas.{below_or_at}
use Rattle.library_scripts.proofs.phases.begin_all.Goals as goal

pub loop-job-preserved : goal.loop-job-preserved
loop-job-preserved g c =
    let inv = c.loop-job.invariant in
    let items = c.loop-job.job-items in
    let at = c.loop-job.job-index in
    let new = c.begin.new.self in
    let IsNone : JobState → Type 0 = λ job. (job.lines ≡ []) × (job.replies ≡ []) in
    let within : at < length items = omega (arith, c.loop-job-test.true, c.loop-job.auto.job-items) in
    record {
      seats =
          map-set_same (λ (j : JobState). j.seat) items at new c.job-item.result c.begin.ensures.seat ∙ inv.seats;
      none = λ k d less.
          ⊎_elim
          (λ (before : k < at). subst IsNone
          (sym (get_or-set_other items at k new d (λ same. absurd (omega (arith, same, before)))))
          (inv.none k d before))
          (λ (here : k ≡ at). subst IsNone
          (sym (ap (λ (i : ℕ). get_or (set items at new) i d) here ∙ get_or-set_same items at new d within))
          c.begin.ensures.none)
          (below_or_at k at less);
    }
