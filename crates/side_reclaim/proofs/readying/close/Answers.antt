use Rattle.std.proofs.Common.{sym, subst}
use Rattle.std.proofs.lemmas.Result.{on_ok_weaker}
use Rattle.tape_disk.specs.TwoDisks.{TwoDisks, TwoLeave}
use Rattle.cartridge_sides.specs.declared.which.Which.{Which}
use Rattle.cartridge_sides.specs.declared.which.Which.TheVariants.{First, Second}
use Rattle.side_reclaim.specs.Ready.{GivesSide, GivesSurely, IsReady, StillGives}
use Rattle.side_reclaim.proofs.ReadyLemmas.{closed_first, closed_second, first_runs, second_runs, sure_first, sure_second}
use Rattle.side_reclaim.proofs.readying.close.Goals as goal

pub returns-in-First-clause-any_moment : goal.returns-in-First-clause-any_moment
returns-in-First-clause-any_moment g c = λ honest head bodies gives paired.
    let state = g.D.Disk.state in
    let laws = g.met.D.Disk.is_disk in
    let f = c.args.first.now in
    let s0 = c.args.second.now in
    let s1 = c.close_spare.new.spare in
    let old : TwoDisks g.row.D.Denot = record { first = f; second = s0 } in
    let new : TwoDisks g.row.D.Denot = record { first = f; second = s1 } in
    let here = subst (λ (w : Which). GivesSurely state old w head bodies) c.in-First.is gives in
    subst (λ (w : Which). TwoLeave state old new (GivesSide w head bodies)) (sym c.in-First.is)
    (second_runs state laws f s0 s1 First head bodies here
    (c.close_spare.ensures.any_moment honest.1 (sure_second state laws old head bodies here paired) First head bodies
    (state f).seen here.stands))

pub returns-in-First-clause-ok : goal.returns-in-First-clause-ok
returns-in-First-clause-ok g c = λ honest head bodies gives paired.
    let state = g.D.Disk.state in
    let laws = g.met.D.Disk.is_disk in
    let f = c.args.first.now in
    let s0 = c.args.second.now in
    let s1 = c.close_spare.new.spare in
    let old : TwoDisks g.row.D.Denot = record { first = f; second = s0 } in
    let new : TwoDisks g.row.D.Denot = record { first = f; second = s1 } in
    let here = subst (λ (w : Which). GivesSurely state old w head bodies) c.in-First.is gives in
    let leaves = second_runs state laws f s0 s1 First head bodies here
    (c.close_spare.ensures.any_moment honest.1 (sure_second state laws old head bodies here paired) First head bodies
    (state f).seen here.stands) in
    on_ok_weaker c.close_spare.result
    (λ now. subst (λ (w : Which). StillGives state old new w head bodies × IsReady state new w) (sym c.in-First.is)
    (closed_second state laws f s0 s1 head bodies here
    (honest.0, c.close_spare.ensures.passes.stays_honest honest.1) paired leaves now))
    (c.close_spare.ensures.ok honest.1 (sure_second state laws old head bodies here paired))

pub returns-in-Second-clause-any_moment : goal.returns-in-Second-clause-any_moment
returns-in-Second-clause-any_moment g c = λ honest head bodies gives paired.
    let state = g.D.Disk.state in
    let laws = g.met.D.Disk.is_disk in
    let f0 = c.args.first.now in
    let f1 = c.close_spare-in-Second.new.spare in
    let s = c.args.second.now in
    let old : TwoDisks g.row.D.Denot = record { first = f0; second = s } in
    let new : TwoDisks g.row.D.Denot = record { first = f1; second = s } in
    let here = subst (λ (w : Which). GivesSurely state old w head bodies) c.in-Second.is gives in
    subst (λ (w : Which). TwoLeave state old new (GivesSide w head bodies)) (sym c.in-Second.is)
    (first_runs state laws f0 f1 s Second head bodies here
    (c.close_spare-in-Second.ensures.any_moment honest.0 (sure_first state laws old Second head bodies here) Second head
    bodies (state s).seen here.stands))

pub returns-in-Second-clause-ok : goal.returns-in-Second-clause-ok
returns-in-Second-clause-ok g c = λ honest head bodies gives paired.
    let state = g.D.Disk.state in
    let laws = g.met.D.Disk.is_disk in
    let f0 = c.args.first.now in
    let f1 = c.close_spare-in-Second.new.spare in
    let s = c.args.second.now in
    let old : TwoDisks g.row.D.Denot = record { first = f0; second = s } in
    let new : TwoDisks g.row.D.Denot = record { first = f1; second = s } in
    let here = subst (λ (w : Which). GivesSurely state old w head bodies) c.in-Second.is gives in
    let leaves = first_runs state laws f0 f1 s Second head bodies here
    (c.close_spare-in-Second.ensures.any_moment honest.0 (sure_first state laws old Second head bodies here) Second head
    bodies (state s).seen here.stands) in
    on_ok_weaker c.close_spare-in-Second.result
    (λ now. subst (λ (w : Which). StillGives state old new w head bodies × IsReady state new w) (sym c.in-Second.is)
    (closed_first state laws f0 f1 s head bodies here
    (c.close_spare-in-Second.ensures.passes.stays_honest honest.0, honest.1) leaves now))
    (c.close_spare-in-Second.ensures.ok honest.0 (sure_first state laws old Second head bodies here))
