use Rattle.std.proofs.Common.{rules, ◌≡◌, true, sym, subst}
use Rattle.std.specs.List.{list_all}
use Rattle.library.specs.Counts.{has_drive}
use Rattle.library_scripts.specs.Inner.Jobs.{StageState}
use Rattle.library_scripts.proofs.DoneLemmas.{if_dealt_ready}
use Rattle.library_scripts.proofs.stages.StageHosts.deal.Goals as goal

pub returns-clause-ready : goal.returns-clause-ready
returns-clause-ready g c =
    if_dealt_ready c.self.inside.library.now c.self.inside.jobs.len c.deal_all.new.jobs _ c.args.lines.now
    c.deal_all.result (search rules) c.deal_all.ensures.dealt c.deal_all.ensures.lines
    (subst (λ (s : StageState). list_all (λ line. has_drive s.drives line.drive) c.args.lines.now ≡ true)
    (sym c.self.view_is) c.requires.configured)
