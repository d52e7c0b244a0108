use Rattle.std.proofs.Common.{◌≡◌, ◌∙◌, ◌++◌, ◌-◌, ap, arith, drop, length, length-drop}
use Rattle.std.specs.Int.{to_be_bytes, w32}
use Rattle.std.proofs.lemmas.List.{take_all}
use Rattle.byteorder.specs.Endian.{big_number}
use Rattle.vtl_wire.proofs.RequestLemmas.{eight_bytes}
use Rattle.vtl_wire.proofs.request_heads.two_numbers.Goals as goal

pub returns : goal.returns
returns c =
    let bytes = c.args.bytes.now in
    let rest = take_all (length bytes - 4) (drop 4 bytes) (omega (arith, length-drop 4 bytes)) in
    let first : c.read_u32-first.result ≡ big_number 4 bytes = c.read_u32-first.ensures in
    let second : c.read_u32-second.result ≡ big_number 4 (drop 4 bytes) =
    c.read_u32-second.ensures ∙ ap (big_number 4) rest in
    (λ i. to_be_bytes w32 (first i) ++ to_be_bytes w32 (second i))
    ∙ eight_bytes bytes c.requires (λ i. omega (arith, c.type_inv.bytes i))
