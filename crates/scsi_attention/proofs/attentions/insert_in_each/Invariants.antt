use Rattle.std.proofs.Common.{◌≡◌, ◌++◌, take, drop, map}
use Rattle.scsi_attention.specs.AttentionSets.{with_attention}
use Rattle.scsi_attention.proofs.attentions.insert_in_each.Given as goal

abbrev pub invariant-loop-set : goal.invariant-loop-set
invariant-loop-set l =
    l.sets ≡ map (with_attention l.attention) (take l.set-index l.initial.sets) ++ drop l.set-index l.initial.sets
