use Rattle.std.proofs.Common.{◌≡◌, true, false}
use Rattle.std.proofs.lemmas.Result.{err_from_is_err_and}
use Rattle.vtl_hosts.specs.Inner.Idle.{servers_of}
use Rattle.vtl_hosts.specs.Turns.{HostsState}
use Rattle.vtl_hosts.proofs.TurnLemmas.{is_not, is_so, noted_alone, noted_read, turn_again, turn_cut, turn_done, turn_ended, turn_failed, turn_missed}
use Rattle.vtl_hosts.proofs.turns.serve_turn.Goals as goal

pub returns-then-not-round-clause-serves : goal.returns-then-not-round-clause-serves
returns-then-not-round-clause-serves g c =
    let part : c.serve_round-round.result.whole ≡ false = is_not _ c.if-not-round.true in
    let old : HostsState g.row.S.Denot g.row.G.Denot =
    record { hosts = servers_of c.args.ends.now.hosts.items; desk = c.args.desk.now } in
    turn_failed g.S.Host.answers g.G.Desk.is_taken g.G.Desk.answers g.G.Desk.lacks c.args.frames.now.frames old _ _
    (servers_of c.serve_round-round.new.ends.hosts.items) c.serve_round-round.new.frames.frames _ _
    c.serve_round-round.result.read (rw part at c.serve_round-round.ensures.runs)

pub returns-in_err-round-clause-serves : goal.returns-in_err-round-clause-serves
returns-in_err-round-clause-serves g c =
    let whole : c.serve_round-round.result.whole ≡ true = is_so _ c.if-not-round.false in
    let old : HostsState g.row.S.Denot g.row.G.Denot =
    record { hosts = servers_of c.args.ends.now.hosts.items; desk = c.args.desk.now } in
    let exit = err_from_is_err_and c.from_residual.result c.from_residual.ensures.1 in
    rw (exit.1, exit.2)
    (turn_missed g.S.Host.answers g.G.Desk.is_taken g.G.Desk.answers g.G.Desk.lacks c.args.frames.now.frames old _ _
    (servers_of c.serve_round-round.new.ends.hosts.items) c.serve_round-round.new.frames.frames _ _
    c.in_err-round.field-0.0 (rw (c.in_err-round.was, whole) at c.serve_round-round.ensures.runs))

pub returns-in_err-serve_alone-in-Next-clause-serves :
    goal.returns-in_err-serve_alone-in-Next-clause-serves
returns-in_err-serve_alone-in-Next-clause-serves g c =
    let whole : c.serve_round-round.result.whole ≡ true = is_so _ c.if-not-round.false in
    let old : HostsState g.row.S.Denot g.row.G.Denot =
    record { hosts = servers_of c.args.ends.now.hosts.items; desk = c.args.desk.now } in
    let exit =
    err_from_is_err_and c.from_residual-in_err-serve_alone-in-Next.result
    c.from_residual-in_err-serve_alone-in-Next.ensures.1 in
    rw (exit.1, exit.2)
    (turn_cut g.S.Host.answers g.G.Desk.is_taken g.G.Desk.answers g.G.Desk.lacks c.args.frames.now.frames old _ _
    (servers_of c.serve_round-round.new.ends.hosts.items) c.serve_round-round.new.frames.frames _ _ _ c.in-Next.request
    c.serve_alone.new.desk
    (rw (c.in_ok-round.was, c.in-Next.is, whole) at c.serve_round-round.ensures.runs)
    c.in_err-serve_alone-in-Next.field-0.0 c.in_err-serve_alone-in-Next.ensures)

pub returns-in-Ended-clause-serves : goal.returns-in-Ended-clause-serves
returns-in-Ended-clause-serves g c =
    let whole : c.serve_round-round.result.whole ≡ true = is_so _ c.if-not-round.false in
    let old : HostsState g.row.S.Denot g.row.G.Denot =
    record { hosts = servers_of c.args.ends.now.hosts.items; desk = c.args.desk.now } in
    turn_ended g.S.Host.answers g.G.Desk.is_taken g.G.Desk.answers g.G.Desk.lacks c.args.frames.now.frames old _ _
    (servers_of c.serve_round-round.new.ends.hosts.items) c.serve_round-round.new.frames.frames _ _
    (rw (c.in_ok-round.was, c.in-Ended.is, whole) at c.serve_round-round.ensures.runs)

pub returns-in_ok-serve_alone-in-Next-clause-serves :
    goal.returns-in_ok-serve_alone-in-Next-clause-serves
returns-in_ok-serve_alone-in-Next-clause-serves g c =
    let whole : c.serve_round-round.result.whole ≡ true = is_so _ c.if-not-round.false in
    let old : HostsState g.row.S.Denot g.row.G.Denot =
    record { hosts = servers_of c.args.ends.now.hosts.items; desk = c.args.desk.now } in
    turn_done g.S.Host.answers g.G.Desk.is_taken g.G.Desk.answers g.G.Desk.lacks c.args.frames.now.frames old _ _
    (servers_of c.serve_round-round.new.ends.hosts.items) c.serve_round-round.new.frames.frames _ _ _ c.in-Next.request
    c.serve_alone.new.desk
    (rw (c.in_ok-round.was, c.in-Next.is, whole) at c.serve_round-round.ensures.runs)
    c.in_ok-serve_alone-in-Next.ensures

pub returns-in-Again-clause-serves : goal.returns-in-Again-clause-serves
returns-in-Again-clause-serves g c =
    let whole : c.serve_round-round.result.whole ≡ true = is_so _ c.if-not-round.false in
    let old : HostsState g.row.S.Denot g.row.G.Denot =
    record { hosts = servers_of c.args.ends.now.hosts.items; desk = c.args.desk.now } in
    turn_again g.S.Host.answers g.G.Desk.is_taken g.G.Desk.answers g.G.Desk.lacks c.args.frames.now.frames old _ _
    (servers_of c.serve_round-round.new.ends.hosts.items) c.serve_round-round.new.frames.frames _ _
    (rw (c.in_ok-round.was, c.in-Again.is, whole) at c.serve_round-round.ensures.runs)

pub returns-in_err-round-clause-noted : goal.returns-in_err-round-clause-noted
returns-in_err-round-clause-noted g c =
    let exit = err_from_is_err_and c.from_residual.result c.from_residual.ensures.1 in
    rw (exit.1, exit.2)
    (noted_read c.args.frames.now.failed c.serve_round-round.new.frames.failed c.in_err-round.field-0.0
    (rw c.in_err-round.was at c.serve_round-round.ensures.noted))

pub returns-in_err-serve_alone-in-Next-clause-noted : goal.returns-in_err-serve_alone-in-Next-clause-noted
returns-in_err-serve_alone-in-Next-clause-noted g c =
    let exit =
    err_from_is_err_and c.from_residual-in_err-serve_alone-in-Next.result
    c.from_residual-in_err-serve_alone-in-Next.ensures.1 in
    rw (exit.1, exit.2)
    (λ is. absurd (noted_alone g.G.Desk.answers g.G.Desk.lacks c.args.desk.now c.serve_alone.new.desk
    c.in-Next.request _ _ c.in_err-serve_alone-in-Next.field-0.0 c.in_err-serve_alone-in-Next.ensures is))
