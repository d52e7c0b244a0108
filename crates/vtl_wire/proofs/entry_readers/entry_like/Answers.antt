use Rattle.std.proofs.Common.{◌≡◌, ◌-◌, ◌∙◌, arith, drop, length, length-drop}
use Rattle.std.proofs.lemmas.List.{take_all}
use Rattle.byteorder.specs.Endian.{big_number}
use Rattle.vtl_wire.proofs.EntryReadLemmas.{entry_parts}
use Rattle.vtl_wire.proofs.entry_readers.entry_like.Goals as goal

pub returns-clause-like : goal.returns-clause-like
returns-clause-like c = λ entry valid same.
    let bytes = c.args.bytes.now in
    let parts = entry_parts bytes entry valid same in
    let number : c.read_u32.result ≡ big_number 4 bytes = c.read_u32.ensures in
    let rest = take_all (length bytes - 4) (drop 4 bytes) (omega (arith, length-drop 4 bytes)) in
    let barcode = c.barcode_like.ensures.like entry.barcode valid.barcode (rest ∙ parts.1) in
    λ i. record { address = (number ∙ parts.0) i; barcode = barcode i }
