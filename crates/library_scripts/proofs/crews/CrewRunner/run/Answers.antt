use Rattle.library_scripts.proofs.CrewLemmas.{none_seen}
use Rattle.library_scripts.proofs.crews.CrewRunner.run.Goals as goal

pub returns-in-Phase-clause-err : goal.returns-in-Phase-clause-err
returns-in-Phase-clause-err g c =
    let hosts = g.S.Hosts in
    none_seen (λ crew. hosts.crew crew.hosts) hosts.answers c.args.self.now c.run_lines.new.self c.args.item.now
    c.run_lines.result (g.met.S.Hosts.answers_empty (hosts.crew c.args.self.now.hosts)) c.run_lines.ensures.err

pub returns-in-Move-clause-err : goal.returns-in-Move-clause-err
returns-in-Move-clause-err g c =
    let hosts = g.S.Hosts in
    none_seen (λ crew. hosts.crew crew.hosts) hosts.answers c.args.self.now
    (record { hosts = c.run_move.new.self; serve = c.args.self.now.serve }) c.args.item.now c.run_move.result
    (g.met.S.Hosts.answers_empty (hosts.crew c.args.self.now.hosts)) c.run_move.ensures.err
