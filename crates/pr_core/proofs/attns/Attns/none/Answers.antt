use Rattle.std.proofs.Common.{sym, subst, replicate}
use Rattle.vtl_base.specs.declared.limits.TheConstants.{NEXUSES}
use Rattle.scsi_attention.specs.AttentionSets.{AttentionSet, no_attentions}
use Rattle.pr_core.specs.Sets.{Shows}
use Rattle.pr_core.specs.Effects.{establishes_none}
use Rattle.pr_core.proofs.SetLemmas.{replicate_shows}
use Rattle.pr_core.proofs.attns.Attns.none.Goals as goal

pub returns : goal.returns
returns c =
    subst (λ (set : AttentionSet). Shows no_attentions (replicate NEXUSES set) establishes_none) (sym c.empty.ensures)
    (replicate_shows no_attentions)
