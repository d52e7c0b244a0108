use Rattle.vtl_hosts.proofs.RoundHostLemmas.{pairs_still}
use Rattle.vtl_hosts.proofs.RoundLemmas.{round_idle, round_runs}
use Rattle.vtl_hosts.proofs.rounds.run_round.Goals as goal

pub are_empty-empty-requires : goal.are_empty-empty-requires
are_empty-empty-requires g c =
    pairs_still g.S.Host.answers c.args.hosts.now c.run_threads-said.new.hosts c.args.requests.now
    c.run_threads-said.new.requests c.args.answers.now c.run_threads-said.new.answers
    c.run_threads-said.ensures.read.read.commands c.run_threads-said.ensures.written.given c.requires.idle
    c.run_threads-said.ensures.hosts c.run_threads-said.ensures.read.read.dealt
    c.run_threads-said.ensures.written.taken

pub returns-clause-runs : goal.returns-clause-runs
returns-clause-runs g c =
    round_runs g.S.Host.answers g.G.Desk.is_taken g.G.Desk.answers c.args.hosts.now c.run_threads-said.new.hosts
    c.are_empty-empty.new.hosts c.args.requests.now c.run_threads-said.new.requests c.are_empty-empty.new.requests
    c.args.answers.now c.run_threads-said.new.answers c.are_empty-empty.new.answers c.args.desk.now
    c.args.frames.now.frames c.run_threads-said.new.frames.frames _ _ _ _ c.run_threads-said.result.read
    c.run_threads-said.result.failed c.are_empty-empty.result c.is_whole.result c.requires.idle
    c.run_threads-said.ensures.hosts c.run_threads-said.ensures.written c.run_threads-said.ensures.read
    c.are_empty-empty.ensures.looks c.are_empty-empty.ensures.some c.is_whole.ensures

pub returns-clause-idle : goal.returns-clause-idle
returns-clause-idle g c =
    round_idle g.S.Host.answers g.G.Desk.is_taken g.G.Desk.answers c.args.hosts.now c.run_threads-said.new.hosts
    c.are_empty-empty.new.hosts c.args.requests.now c.run_threads-said.new.requests c.are_empty-empty.new.requests
    c.args.answers.now c.run_threads-said.new.answers c.are_empty-empty.new.answers c.args.desk.now
    c.args.frames.now.frames c.run_threads-said.new.frames.frames _ _ _ _ c.run_threads-said.result.read
    c.run_threads-said.result.failed c.are_empty-empty.result c.is_whole.result c.requires.idle
    c.run_threads-said.ensures.hosts c.run_threads-said.ensures.written c.run_threads-said.ensures.read
    c.are_empty-empty.ensures.looks c.is_whole.ensures
