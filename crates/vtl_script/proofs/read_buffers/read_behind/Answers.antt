use Rattle.std.proofs.Common.{arith, length-take-le}
use borrow.Rule.Slice.PartMut.{take_put}
use Rattle.vtl_script.proofs.ReadingLemmas.{consumes_in_place}
use Rattle.vtl_script.proofs.read_buffers.read_behind.Goals as goal

pub returns-clause-front : goal.returns-clause-front
returns-clause-front g c = take_put _ _ c.args.buffer.now _ (omega (arith, c.requires))

pub returns-clause-taken : goal.returns-clause-taken
returns-clause-taken g c =
    consumes_in_place _ _ _ _ c.read_once.new.slice _ c.args.filled
    (length-take-le _ c.args.buffer.now (omega (arith, c.requires)))
    c.read_once.ensures.within c.read_once.ensures.taken
