use Rattle.std.proofs.Common.{Err, Ok}
use Rattle.std.proofs.lemmas.Result.{err_from_is_err_and}
use Rattle.vtl_hosts.specs.Inner.Idle.{servers_of}
use Rattle.vtl_hosts.proofs.ServingLemmas.{serves_all, turns_none, turns_on}
use Rattle.vtl_hosts.proofs.turns.serve_turns.Goals as goal

pub returns-in_err-serve_turn-clause-serves : goal.returns-in_err-serve_turn-clause-serves
returns-in_err-serve_turn-clause-serves g c =
    let exit = err_from_is_err_and c.from_residual.result c.from_residual.ensures.1 in
    rw (exit.1, exit.2)
    (serves_all g.S.Host.answers g.G.Desk.is_taken g.G.Desk.answers g.G.Desk.lacks c.loop.frames.frames
    (record { hosts = servers_of c.args.ends.now.hosts.items; desk = c.args.desk.now })
    (record { hosts = servers_of c.loop.ends.hosts.items; desk = c.loop.desk })
    (record { hosts = servers_of c.serve_turn.new.ends.hosts.items; desk = c.serve_turn.new.desk }) _ _ _ _ _ _
    (Err c.in_err-serve_turn.field-0.0) c.loop.invariant.serves c.in_err-serve_turn.ensures.serves)

pub returns-then-not-branch-clause-serves : goal.returns-then-not-branch-clause-serves
returns-then-not-branch-clause-serves g c =
    serves_all g.S.Host.answers g.G.Desk.is_taken g.G.Desk.answers g.G.Desk.lacks c.loop.frames.frames
    (record { hosts = servers_of c.args.ends.now.hosts.items; desk = c.args.desk.now })
    (record { hosts = servers_of c.loop.ends.hosts.items; desk = c.loop.desk })
    (record { hosts = servers_of c.serve_turn.new.ends.hosts.items; desk = c.serve_turn.new.desk }) _ _ _ _ _ _
    (Ok tt) c.loop.invariant.serves (rw c.if-not-branch.true at c.in_ok-serve_turn.ensures.serves)

pub loop-init : goal.loop-init
loop-init g c = record {
  serves =
      rw c.new-frames.ensures.frames (turns_none g.S.Host.answers g.G.Desk.is_taken g.G.Desk.answers g.G.Desk.lacks 0
      (record { hosts = servers_of c.args.ends.now.hosts.items; desk = c.args.desk.now }) _ _);
  idle = c.requires.idle;
  all = c.requires.all;
}

pub loop-preserved : goal.loop-preserved
loop-preserved g c = record {
  serves =
      turns_on g.S.Host.answers g.G.Desk.is_taken g.G.Desk.answers g.G.Desk.lacks 0 c.loop.frames.frames
      c.serve_turn.new.frames.frames
      (record { hosts = servers_of c.args.ends.now.hosts.items; desk = c.args.desk.now })
      (record { hosts = servers_of c.loop.ends.hosts.items; desk = c.loop.desk })
      (record { hosts = servers_of c.serve_turn.new.ends.hosts.items; desk = c.serve_turn.new.desk }) _ _ _ _ _ _
      c.loop.invariant.serves (rw c.if-not-branch.false at c.in_ok-serve_turn.ensures.serves);
  idle = c.in_ok-serve_turn.ensures.idle c.if-not-branch.false;
  all = c.in_ok-serve_turn.ensures.all;
}
