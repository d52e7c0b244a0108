use Rattle.std.proofs.Common.{◌≡◌, ◌∙◌, ap, ◌%◌, ◌/◌, ◌^◌, bit_xor}
use Rattle.std.proofs.lemmas.Nat.{and_mask}
use Rattle.crc32c.specs.Crc.{steps}
use Rattle.crc32c.proofs.FedLemmas.{one_byte}
use Rattle.crc32c.proofs.eight.fed_one.Goals as goal

pub returns : goal.returns
returns c =
    let word = bit_xor c.args.register c.args.byte in
    let entry : c.byte_after_1.result ≡ steps 8 (word % 2 ^ 8) =
    c.byte_after_1.ensures ∙ ap (steps 8) (and_mask word 8) in
    ap (bit_xor (word / 2 ^ 8)) entry ∙ one_byte c.args.register c.args.byte
