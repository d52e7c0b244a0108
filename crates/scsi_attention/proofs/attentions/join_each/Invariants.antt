use Rattle.std.proofs.Common.{◌≡◌, take}
use Rattle.scsi_attention.specs.Attentions.{established_by}
use Rattle.scsi_attention.proofs.attentions.join_each.Given as goal

abbrev pub invariant-loop-place : goal.invariant-loop-place
invariant-loop-place l = l.sets ≡ established_by l.initial.sets (take l.place l.established)
