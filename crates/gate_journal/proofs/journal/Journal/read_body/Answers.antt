use Rattle.std.proofs.Common.{◌≡◌, length, rules}
use Rattle.gate_journal.proofs.Parts.{part_read}
use Rattle.gate_journal.proofs.journal.Journal.read_body.Goals as goal

pub returns-in-Ok-clause-bytes : goal.returns-in-Ok-clause-bytes
returns-in-Ok-clause-bytes g c = rw (← c.self.view_is) (λ honest.
    let i = c.self.inside in
    let kept : length c.args.buffer.now ≡ length c.read_at.new.buffer = search rules in
    part_read (g.D.Disk.state i.disk).seen i.extents.items c.args.at (length c.args.buffer.now)
    c.read_at.new.buffer kept (c.in-Ok.ensures.bytes honest))
