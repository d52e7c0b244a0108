use Rattle.std.proofs.Common.{arith, rules}
use Rattle.pr_core.proofs.ReadLemmas.{keys_short}
use Rattle.pr_core.proofs.reads.keys_read.Goals as goal

pub cut_headed-requires : goal.cut_headed-requires
cut_headed-requires c =
    let short = keys_short c.args.state.now.keys in
    rw (c.as_slice.ensures.value, c.push_keys.ensures, c.new-keys.ensures)
    (omega (arith, short, c.requires))
