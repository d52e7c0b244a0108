use Rattle.std.specs.Prelude.{[], ◌∷◌}
use Rattle.cartridge_sides.proofs.GateLemmas.{after_sync, after_write}
use Rattle.cartridge_sides.proofs.gates.write_gate.Goals as goal

pub returns-in_err-write_at-clause-any_moment : goal.returns-in_err-write_at-clause-any_moment
returns-in_err-write_at-clause-any_moment g c = λ h inside sure.
    after_write c.args.at (c.args.gate ∷ []) (g.D.Disk.state c.args.disk.now) (g.D.Disk.state c.write_at.new.self)
    (g.met.D.Disk.is_disk c.args.disk.now h) sure
    _ (c.write_at.ensures.writes h) (c.write_at.ensures.time h)

pub returns-clause-any_moment : goal.returns-clause-any_moment
returns-clause-any_moment g c = λ h inside sure.
    let h1 = c.write_at.ensures.passes.stays_honest h in
    after_sync c.args.at (c.args.gate ∷ []) (g.D.Disk.state c.args.disk.now) (g.D.Disk.state c.write_at.new.self)
    (g.met.D.Disk.is_disk c.args.disk.now h) sure
    _ (c.write_at.ensures.writes h) (c.write_at.ensures.time h)
    (g.D.Disk.state c.sync.new.self) _ (c.sync.ensures.syncs h1) (c.sync.ensures.time h1)
