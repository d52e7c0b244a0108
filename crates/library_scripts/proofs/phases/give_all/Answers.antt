use Rattle.std.proofs.Common.{◌++◌, List, get_or, take, length, sym, ap, ◌∙◌, arith}
use Rattle.std.proofs.Math.Seq.{map-set_same}
use Rattle.std.proofs.lemmas.List.{get_or-set_other}
use Rattle.scsi_sense.specs.declared.replies.Reply.{Reply}
use Rattle.library_scripts.specs.Inner.Jobs.{JobState, replies_of}
use Rattle.library_scripts.proofs.JobLemmas.{replies_more, replies_within}
use Rattle.library_scripts.proofs.phases.give_all.Goals as goal

pub give-requires : goal.give-requires
give-requires g c =
    let inv = c.loop-job.invariant in
    let at = c.loop-job.job-index in
    let item = c.job-item.result in
    omega (
      arith,
      inv.room,
      ap (λ (l : List Reply). length l) inv.replies,
      ap (λ (j : JobState). length j.replies) (inv.left at item (omega arith)),
      replies_within c.args.jobs.now at item c.loop-job-test.true,
    )

pub loop-job-preserved : goal.loop-job-preserved
loop-job-preserved g c =
    let inv = c.loop-job.invariant in
    let jobs = c.args.jobs.now in
    let items = c.loop-job.job-items in
    let at = c.loop-job.job-index in
    let item = c.job-item.result in
    let new = c.give.new.self in
    record {
      seats = map-set_same (λ (j : JobState). j.seat) items at new item c.give.ensures.seat ∙ inv.seats;
      replies =
          c.give.ensures.replies
          ∙ ap (λ (l : List Reply). l ++ (get_or items at item).replies) inv.replies
          ∙ ap (λ (j : JobState). replies_of (take at jobs) ++ j.replies) (inv.left at item (omega arith))
          ∙ sym (replies_more jobs at item c.loop-job-test.true);
      room = omega (arith, inv.room, c.give.ensures.capacity);
      left = λ k d more. get_or-set_other items at k new d (λ same. absurd (omega (arith, same, more)))
          ∙ inv.left k d (omega (arith, more));
    }
