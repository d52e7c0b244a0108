use Rattle.cartridge.specs.Notes.{with_frame}
use Rattle.cartridge.proofs.noted.Noted.with_frame.Given as goal

abbrev pub ghost-note : goal.ghost-note
ghost-note a = with_frame a._from.now.0.now.notes a._from.now.1.now
