use Rattle.std.proofs.Common.{◌<◌, get_or, length, arith}
use Rattle.std.proofs.lemmas.List.{get_or_default}
use Rattle.vtl_hosts.proofs.WriteLemmas.{writes_none, writes_one}
use Rattle.vtl_hosts.proofs.writing.write_first.Goals as goal

pub returns-in_default : goal.returns-in_default
returns-in_default g c = writes_none c.args.rings.now _ c.args.failed.now

pub returns-then-place-rings : goal.returns-then-place-rings
returns-then-place-rings g c =
    let rings = c.args.rings.now in
    let place = c.in-Some.place in
    let item = c.index-rings-place.result in
    let within : place < length rings = omega (arith, c.if-place-rings.true) in
    writes_one rings place (get_or rings place item) c.write_next.new.ring _ _ c.args.failed.now
    c.write_next.new.failed c.write_next.result within (λ d. get_or_default rings place d item within)
    c.write_next.ensures
