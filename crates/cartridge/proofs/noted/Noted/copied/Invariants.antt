use Rattle.cartridge.specs.Reclaiming.{notes_copied}
use Rattle.cartridge.proofs.noted.Noted.copied.Given as goal

abbrev pub ghost-note : goal.ghost-note
ghost-note a = notes_copied a._from.now.notes
