use Rattle.std.proofs.Common.{◌≡◌, true, false, refl}
use Rattle.vtl_wire.proofs.EntryReadLemmas.{barcode_found, barcode_missed}
use Rattle.vtl_wire.proofs.entry_readers.barcode_like.Goals as goal

pub returns-in-Ok-clause-like : goal.returns-in-Ok-clause-like
returns-in-Ok-clause-like c = λ barcode valid same.
    let space = c.before_space.ensures in
    barcode_found c.args.bytes.now c.in-Ok.barcode c.before_space.result barcode valid same
    (record { within = space.within; before = space.before; space = space.space }) (c.in-Ok.ensures.valid.0 refl)
    c.in-Ok.ensures.value

pub returns-in-Err-clause-like : goal.returns-in-Err-clause-like
returns-in-Err-clause-like c = λ barcode valid same.
    let space = c.before_space.ensures in
    barcode_missed c.args.bytes.now c.before_space.result barcode valid same
    (record { within = space.within; before = space.before; space = space.space })
    (λ is. let e : false ≡ true = c.in-Err.ensures.valid.1 is in absurd (cc))
