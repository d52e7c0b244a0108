use Rattle.std.proofs.Common.{◌∙◌, ap, arith, set}
use Rattle.scsi_attention.proofs.EstablishedLemmas.{set_more, set_whole}
use Rattle.scsi_attention.proofs.attentions.join_each.Goals as goal

pub loop-place-preserved : goal.loop-place-preserved
loop-place-preserved c =
    let loop = c.loop-place in
    let here = c.index-sets-place in
    let more = c.index-established-place in
    ap (set loop.sets loop.place) c.join.ensures
    ∙ set_more c.args.sets.now c.args.established.now loop.sets loop.place here.result more.result (omega arith)
    (omega arith)
    loop.invariant here.is more.is

pub returns : goal.returns
returns c =
    c.loop-place.invariant ∙ set_whole c.args.sets.now c.args.established.now c.loop-place.place (omega arith)
