use Rattle.tape_buffer.specs.Moves.{stores_behind_nowhere}
use Rattle.tape_buffer.specs.State.{open_buffer}
use Rattle.tape_buffer.proofs.CoreLemmas.{rests}
use Rattle.tape_buffer.proofs.storing.turn_over.Goals as goal

pub returns-then-has_failed-clause-advances : goal.returns-then-has_failed-clause-advances
returns-then-has_failed-clause-advances g c =
    rests g.D.Disk.state g.met.D.Disk.is_disk (open_buffer c.args.cartridge.now c.args.pending.now)

pub returns-then-is_empty-clause-advances : goal.returns-then-is_empty-clause-advances
returns-then-is_empty-clause-advances g c =
    rests g.D.Disk.state g.met.D.Disk.is_disk (open_buffer c.args.cartridge.now c.args.pending.now)

pub returns-then-has_failed-clause-behind : goal.returns-then-has_failed-clause-behind
returns-then-has_failed-clause-behind g c =
    stores_behind_nowhere g.D.Disk.state g.met.D.Disk.is_disk (open_buffer c.args.cartridge.now c.args.pending.now)

pub returns-then-is_empty-clause-behind : goal.returns-then-is_empty-clause-behind
returns-then-is_empty-clause-behind g c =
    stores_behind_nowhere g.D.Disk.state g.met.D.Disk.is_disk (open_buffer c.args.cartridge.now c.args.pending.now)
