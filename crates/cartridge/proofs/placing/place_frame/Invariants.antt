use Rattle.std.proofs.Common.{◌≡◌, ◌+◌, length, take}
use Rattle.volume_core.specs.Volume.{after}
use Rattle.change_records.specs.Records.{spell_all}
use Rattle.object_index.specs.Indexes.{Indexes}
use Rattle.cartridge.specs.Contents.{volume_made}
use Rattle.cartridge.specs.Inner.Growing.{TakesEntries}
use Rattle.cartridge.specs.Lying.{LiesOnSide}
use Rattle.cartridge.specs.Notes.{noted_contents, with_frame}
use Rattle.cartridge.proofs.placing.place_frame.Given as goal

abbrev pub invariant-loop-change : goal.invariant-loop-change
invariant-loop-change g l = record {
  at_is : l.at ≡ l.place + length (spell_all (take l.change-index l.changes));
  lies :
      Indexes (LiesOnSide (with_frame l.noted.notes l.changes) l.journal.extents)
      (after (volume_made (noted_contents l.noted.notes)) (take l.change-index l.changes)) l.index;
  reserved : TakesEntries l.initial.index (take l.change-index l.changes) l.index;
}
