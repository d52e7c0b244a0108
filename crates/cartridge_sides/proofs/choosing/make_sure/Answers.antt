use Rattle.tape_disk.specs.Moments.{no_call, one_more_call}
use Rattle.cartridge_sides.proofs.choosing.make_sure.Goals as goal

pub returns-clause-any_moment : goal.returns-clause-any_moment
returns-clause-any_moment g c = λ h.
    let old = g.D.Disk.state c.args.disk.now in
    one_more_call old old (g.D.Disk.state c.sync.new.self) old.may_leave
    (no_call old old.may_leave (g.met.D.Disk.is_disk c.args.disk.now h) (λ image left. left)) (c.sync.ensures.time h)
    (c.sync.ensures.syncs h).crash
