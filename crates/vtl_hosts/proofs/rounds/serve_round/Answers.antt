use Rattle.std.proofs.Common.{rules, ◌≡◌, ◌++◌, List, length, take, drop, sym, subst}
use Rattle.vtl_hosts.specs.declared.hosts.HostEnd.{HostEnd}
use Rattle.vtl_hosts.specs.Inner.Idle.{RunsRound, servers_of}
use Rattle.vtl_hosts.proofs.RoundLemmas.{refilled}
use Rattle.vtl_hosts.proofs.rounds.serve_round.Goals as goal

pub returns-clause-runs : goal.returns-clause-runs
returns-clause-runs g c =
    let old = c.args.ends.now.hosts.items in
    let new = c.run_round.new.hosts in
    let back : take c.args.ends.now.hosts.len (new ++ drop (length new) old) ≡ new =
    refilled c.args.ends.now.hosts.len new old (search rules) in
    subst
    (λ (l : List (HostEnd g.row.S.Denot)). RunsRound g.S.Host.answers g.G.Desk.is_taken g.G.Desk.answers
    c.args.frames.now.frames
    (record { hosts = servers_of old; desk = c.args.desk.now }) (g.I.Read.remaining c.args.reader.now)
    (g.W.Write.contents c.args.writer.now) c.run_round.new.frames.frames
    (record { hosts = servers_of l; desk = c.args.desk.now }) (g.I.Read.remaining c.run_round.new.reader)
    (g.W.Write.contents c.run_round.new.writer) c.run_round.result.read c.run_round.result.whole)
    (sym back)
    (subst
    (λ (l : List (HostEnd g.row.S.Denot)). RunsRound g.S.Host.answers g.G.Desk.is_taken g.G.Desk.answers
    c.args.frames.now.frames
    (record { hosts = servers_of l; desk = c.args.desk.now }) (g.I.Read.remaining c.args.reader.now)
    (g.W.Write.contents c.args.writer.now) c.run_round.new.frames.frames
    (record { hosts = servers_of new; desk = c.args.desk.now }) (g.I.Read.remaining c.run_round.new.reader)
    (g.W.Write.contents c.run_round.new.writer) c.run_round.result.read c.run_round.result.whole)
    c.as_mut_slice-3.ensures.value c.run_round.ensures.runs)
