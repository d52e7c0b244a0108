use Rattle.std.proofs.Common.{◌∙◌, Some, ap, sym}
use Rattle.std.specs.Prelude.{slice_get}
use Rattle.volume_core.specs.Volume.{objects_of}
use Rattle.cartridge.specs.Contents.{volume_made}
use Rattle.cartridge.specs.State.{OpenCartridge}
use Rattle.check_lines.proofs.ReadingLemmas.{block_read}
use Rattle.check_lines.proofs.reading.read_object.Goals as goal

pub returns-in-Ok : goal.returns-in-Ok
returns-in-Ok g c =
    let old = c.args.cartridge.now in
    let there = slice_get (objects_of (volume_made old.contents) c.args.part) c.args.at in
    record {
      disks = c.in-Ok.ensures.disks.keeps;
      contents = ap (λ (held : OpenCartridge g.row.D.Denot). held.contents) c.in-Ok.ensures.same;
      awake = c.in-Ok.ensures.answer.1;
      none_failed = c.in-Ok.ensures.answer.2;
      each = block_read g.D.Disk.effect old.contents.which there old.disks c.fetch.new.self.disks
          (sym c.kind_at.ensures ∙ c.in-Some-Block.is ∙ ap Some c.in-Some-Block.field-0-is) c.in-Ok.ensures.reads;
      cause = tt;
      unwritten = c.in-Ok.ensures.unwritten;
    }
