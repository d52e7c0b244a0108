use Rattle.std.proofs.Common.{rules, subst}
use Rattle.scsi_attention.specs.AttentionSets.{AttentionSet}
use Rattle.pr_core.specs.Sets.{Shows}
use Rattle.pr_core.specs.States.{others}
use Rattle.pr_core.specs.Effects.{establishes}
use Rattle.pr_core.proofs.states.PrState.establishes_for_others.Goals as goal

pub returns : goal.returns
returns c =
    let entries = establishes (others c.args.self.now c.args.nexus) c.args.attention in
    let row : Shows c.empty.result c.row_of.result entries =
    c.row_of.ensures entries (λ other answer is post. search rules) in
    rw c.from_row.ensures
    (subst (λ (nothing : AttentionSet). Shows nothing c.row_of.result entries) c.empty.ensures row)
