use Rattle.vtl_script.proofs.SplitLemmas.{first_is}
use Rattle.vtl_script.proofs.splits.place_of.Goals as goal

pub returns-clause-place : goal.returns-clause-place
returns-clause-place c = first_is c.args.byte c.args.text.now c.memchr.result c.memchr.ensures
