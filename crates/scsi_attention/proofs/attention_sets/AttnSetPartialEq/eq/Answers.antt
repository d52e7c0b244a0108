use Rattle.std.proofs.Common.{arith}
use Rattle.scsi_attention.specs.Inner.AttentionBits.{bits_of-set_of_bits}
use Rattle.scsi_attention.proofs.attention_sets.AttnSetPartialEq.eq.Goals as goal

pub returns : goal.returns
returns c = grind (arith, bits_of-set_of_bits)
