use Rattle.std.proofs.Common.{◌≡◌, ◌<◌, true, get_or, length, arith}
use Rattle.std.proofs.lemmas.List.{get_or_default}
use Rattle.vtl_hosts.proofs.ReadLemmas.{reads_one}
use Rattle.vtl_hosts.proofs.reading.read_next.Goals as goal

pub returns-clause-reads : goal.returns-clause-reads
returns-clause-reads g c =
    let rings = c.args.rings.now in
    let place = c.in-Some-place_of.place in
    let item = c.index-rings-place.result in
    let within : place < length rings = omega (arith, c.in-Some-place_of.ensures.some.1, c.requires) in
    let taken : g.G.Desk.is_taken c.args.desk.now c.in-Some.request ≡ true = cc in
    reads_one (g.G.Desk.is_taken c.args.desk.now) c.args.frames.now.frames c.next.new.self.frames rings place
    (get_or rings place item) c.push_waiting.new.ring c.in-Some.request _ _
    (rw c.in-Some.is at c.in_ok-request.ensures.ok) taken (rw c.in-Some.is at c.in_ok-request.ensures.count)
    c.in-Some-place_of.ensures.some.1 within c.in-Some-place_of.ensures.some.0
    (λ d. get_or_default rings place d item within) c.push_waiting.ensures.same c.push_waiting.ensures.sent
