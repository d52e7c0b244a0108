use Rattle.tape_buffer.proofs.ClosingLemmas.{advances_shelved}
use Rattle.tape_buffer.proofs.closing.shelve_over.Goals as goal

pub returns-clause-advances : goal.returns-clause-advances
returns-clause-advances g c =
    advances_shelved g.D.Disk.state g.met.D.Disk.is_disk c.args.cartridge c.args.pending.now c.requires.held.torn
    c.requires.at_rest c.shelve.result c.shelve.ensures
