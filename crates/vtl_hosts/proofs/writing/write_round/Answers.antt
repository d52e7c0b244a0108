use Rattle.std.proofs.Common.{false}
use Rattle.vtl_hosts.proofs.WriteLemmas.{writes_none, writes_on}
use Rattle.vtl_hosts.proofs.writing.write_round.Goals as goal

pub loop-init : goal.loop-init
loop-init g c = writes_none c.args.rings.now _ false

pub returns-then-is_last : goal.returns-then-is_last
returns-then-is_last g c =
    writes_on c.args.rings.now c.loop.rings _ _ _ _ false c.loop.failed c.write_first.new.failed c.loop.invariant
    c.write_first.ensures

pub loop-preserved-then-not-write_first : goal.loop-preserved-then-not-write_first
loop-preserved-then-not-write_first g c =
    writes_on c.args.rings.now c.loop.rings _ _ _ _ false c.loop.failed c.write_first.new.failed c.loop.invariant
    c.write_first.ensures

pub loop-preserved : goal.loop-preserved
loop-preserved g c =
    writes_on c.args.rings.now c.loop.rings _ _ _ _ false c.loop.failed c.write_first.new.failed c.loop.invariant
    c.write_first.ensures
