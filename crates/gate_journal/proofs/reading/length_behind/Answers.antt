use Rattle.gate_journal.proofs.Marks.{open_mark}
use Rattle.gate_journal.proofs.reading.length_behind.Goals as goal

pub returns : goal.returns
returns c = open_mark c.args.mark.now c.told-mark c.fits-mark c.requires _ c.read_u32.ensures
