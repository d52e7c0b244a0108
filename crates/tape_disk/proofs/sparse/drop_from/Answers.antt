use Rattle.tape_disk.proofs.SparseLemmas.{byte_before, byte_behind}
use Rattle.tape_disk.proofs.sparse.drop_from.Goals as goal

pub returns-clause-gone : goal.returns-clause-gone
returns-clause-gone c = λ place.
    byte_behind c.args.written.now c.split_off.new.self c.args.len place c.in_ok-split_off.ensures.below

pub returns-clause-before : goal.returns-clause-before
returns-clause-before c = λ place.
    byte_before c.args.written.now c.split_off.new.self c.args.len place c.in_ok-split_off.ensures.below
