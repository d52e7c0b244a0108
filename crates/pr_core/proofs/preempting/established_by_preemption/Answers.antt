use Rattle.std.proofs.Common.{rules, ◌≡◌, ◌∙◌, ap, subst, Bool, false, if◌then◌else◌}
use Rattle.scsi_attention.specs.AttentionSets.{no_attentions, AttentionSet}
use Rattle.scsi_attention.specs.declared.attention_sets.Attention.TheVariants.{RegistrationsPreempted, ReservationsReleased}
use Rattle.pr_core.specs.Sets.{Shows, row_at}
use Rattle.pr_core.specs.Effects.{only}
use Rattle.pr_core.specs.Preempt.{established_by_preemption}
use Rattle.pr_core.proofs.preempting.established_by_preemption.Goals as goal

pub returns : goal.returns
returns c = λ gone freed removed released.
    let freed_now = row_at false c.args.released.now in
    let gone_set = only RegistrationsPreempted in
    let freed_set = only ReservationsReleased in
    let entries = established_by_preemption gone freed in
    let row : Shows c.empty.result c.row_of.result entries =
    c.row_of.ensures entries (λ nexus answer is post.
    let established : answer ≡ established_by_preemption (row_at false c.args.removed.now)
    (row_at false c.args.released.now) nexus =
    search rules in
    established
    ∙ ap (λ (out : Bool). if out then gone_set else if freed_now nexus then freed_set else no_attentions)
    (removed.each nexus is)
    ∙ ap (λ (free : Bool). if gone nexus then gone_set else if free then freed_set else no_attentions)
    (released.each nexus is)) in
    rw c.from_row.ensures
    (subst (λ (nothing : AttentionSet). Shows nothing c.row_of.result entries) c.empty.ensures row)
