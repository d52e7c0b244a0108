use Rattle.vtl_wire.proofs.WriteLemmas.{front_first, on_err}
use Rattle.vtl_wire.proofs.writing.write_both.Goals as goal

pub returns-in_err-write_bytes-clause-err : goal.returns-in_err-write_bytes-clause-err
returns-in_err-write_bytes-clause-err g c =
    on_err _ _ (front_first _ _ c.args.first.now c.args.second.now c.in_err-write_bytes.ensures.err)
