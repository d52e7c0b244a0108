use Rattle.std.proofs.Common.{◌∙◌, ap, sym, slice_set, arith}
use Rattle.std.proofs.lemmas.List.Edits.{map_over_more}
use Rattle.scsi_attention.specs.AttentionSets.{with_attention}
use Rattle.scsi_attention.proofs.attentions.insert_in_each.Goals as goal

pub loop-set-preserved : goal.loop-set-preserved
loop-set-preserved c =
    let written = c.insert.ensures ∙ ap (with_attention c.args.attention) (sym c.set-item.is) in
    ap (slice_set c.loop-set.sets c.loop-set.set-index) written
    ∙ map_over_more (with_attention c.args.attention) c.args.sets.now c.loop-set.sets c.loop-set.set-index
    c.set-item.result (omega arith) c.loop-set.invariant c.set-item.is
