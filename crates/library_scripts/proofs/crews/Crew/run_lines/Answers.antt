use Rattle.std.proofs.Common.{List, [], ◌∷◌, sym, subst}
use Rattle.scsi_sense.specs.declared.replies.Reply.{Reply}
use Rattle.vtl_script.specs.declared.items.Item.TheVariants.{Phase}
use Rattle.library_scripts.specs.Crews.{CrewState}
use Rattle.library_scripts.proofs.crews.Crew.run_lines.Goals as goal

pub returns-clause-ok : goal.returns-clause-ok
returns-clause-ok g c =
    let hosts = g.S.Hosts in
    let laws = g.met.S.Hosts in
    let old = c.args.self.now.hosts in
    let served = c.serve.new.arg2 in
    let lines = c.args.lines.now in
    let answered =
    laws.answered old c.deal.new.self served lines c.in_ok-deal.ensures.ok (c.requires.serves.does _ _ c.serve.ensures)
    in
    subst
    (λ (replies : List Reply).
    hosts.answers (hosts.crew old) (Phase lines ∷ []) replies (hosts.crew c.give.new.self))
    (sym c.give.ensures.replies)
    (subst (λ (crew : CrewState). hosts.answers (hosts.crew old) (Phase lines ∷ []) (hosts.given served) crew)
    (sym c.give.ensures.crew) answered)
