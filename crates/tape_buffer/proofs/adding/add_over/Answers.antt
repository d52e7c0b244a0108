use Rattle.std.proofs.Common.{arith}
use Rattle.cartridge.specs.Contents.{volume_made}
use Rattle.volume_core.specs.Volume.{after}
use Rattle.tape_buffer.proofs.AddingLemmas.{pending_more}
use Rattle.tape_buffer.proofs.VolumeLemmas.{inside_of, stays_so}
use Rattle.tape_buffer.proofs.adding.add_over.Goals as goal

pub reserve_over-requires-clause-part : goal.reserve_over-requires-clause-part
reserve_over-requires-clause-part g c =
    omega (
      arith,
      c.parts.ensures.parts,
      c.parts.ensures.entries,
      (stays_so (volume_made c.args.cartridge.now.contents) c.args.pending.now c.requires.held.apply).parts,
      inside_of (after (volume_made c.args.cartridge.now.contents) c.args.pending.now) c.args.change
          c.requires.unrefused,
    )

pub returns-clause-held : goal.returns-clause-held
returns-clause-held g c =
    pending_more c.args.cartridge.now c.reserve_over.new.cartridge c.args.pending.now c.push.new.self c.args.change
    c.requires.held (c.known.ensures.at_rest c.requires.works) c.reserve_over.ensures.same c.requires.unrefused
    c.requires.room c.in-Ok.ensures.ok c.push.ensures

pub enter_shown-requires : goal.enter_shown-requires
enter_shown-requires g c =
    let volume = after (volume_made c.args.cartridge.now.contents) c.args.pending.now in (
      volume,
      record {
        shows = c.reserve_entry.ensures.shows volume c.requires.shows;
        none = c.requires.unrefused;
        roomy = c.in-Ok-reserve_entry.ensures.ok;
      },
    )

pub reserve_entry-requires : goal.reserve_entry-requires
reserve_entry-requires g c =
    (after (volume_made c.args.cartridge.now.contents) c.args.pending.now, c.requires.shows, c.requires.unrefused)

pub returns-clause-shows : goal.returns-clause-shows
returns-clause-shows g c = λ volume is.
    c.enter_shown.ensures.shows volume (c.reserve_entry.ensures.shows volume is)
