use Rattle.tape_buffer.specs.Invariants.{buffer_of}
use Rattle.tape_buffer.proofs.CoreLemmas.{rests}
use Rattle.tape_buffer.proofs.lending.allow.Goals as goal

pub returns-in-Closed-clause-advances : goal.returns-in-Closed-clause-advances
returns-in-Closed-clause-advances g c = rests g.D.Disk.state g.met.D.Disk.is_disk (buffer_of c.args.held.now)
