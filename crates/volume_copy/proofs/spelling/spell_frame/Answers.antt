use Rattle.std.proofs.Common.{◌≡◌, ◌+◌, ℕ, List, ◌++◌, length, sym, subst, ap, ◌∙◌, arith, length-append}
use Rattle.volume_copy.specs.declared.entries.Entry.{Entry}
use Rattle.volume_copy.specs.Entries.{entries_from, entry_size}
use Rattle.volume_copy.specs.Inner.SoFar.{HasSpelled}
use Rattle.volume_copy.specs.SizeFacts.{entries_from_fit}
use Rattle.volume_copy.proofs.SpellingLemmas.{begun, frame_done, spelled_on, spells_by}
use Rattle.volume_copy.proofs.spelling.spell_frame.Goals as goal

longer : (old more new : List ℕ) → new ≡ old ++ more → length new ≡ length old + length more
longer old more new is = ap (λ (l : List ℕ). length l) is ∙ length-append old more

pub loop-ahead-init : goal.loop-ahead-init
loop-ahead-init g c = record {
  room = c.requires.room;
  keeps = omega arith;
  reads = g.met.R.ReadsBlocks.reads_nothing c.args.reader.now;
  fits = omega arith;
  so_far =
      begun (g.R.ReadsBlocks.honest c.args.reader.now) (g.R.ReadsBlocks.lies c.args.reader.now)
      (entries_from c.args.index.now c.args.start.part c.args.start.at) c.args.buffer.now.items;
}

pub loop-ahead-preserved : goal.loop-ahead-preserved
loop-ahead-preserved g c =
    let parts = c.args.index.now in
    let old = c.args.reader.now in
    let now = c.loop-ahead.reader in
    let inv = c.loop-ahead.invariant in
    let entry = c.in-Some.ahead.entry in
    let start = c.args.start in
    let items = entries_from parts start.part start.at in
    let behind = entries_from parts c.in-Some.ahead.behind.part c.in-Some.ahead.behind.at in
    let honest = g.R.ReadsBlocks.honest old in
    let lies = g.R.ReadsBlocks.lies old in
    let made = c.in_ok-put_entry.ensures.ok in
    let before = subst (λ (rest : List Entry). HasSpelled honest lies items rest c.args.buffer.now.items
    c.loop-ahead.buffer.items c.loop-ahead.bytes) c.in-Some.ensures.next inv.so_far in
    let spells = spells_by honest (g.R.ReadsBlocks.honest now) lies (g.R.ReadsBlocks.lies now) entry made.0
    (λ is. g.met.R.ReadsBlocks.honest_on old now inv.reads is)
    (λ block place is. g.met.R.ReadsBlocks.lies_on old now block place inv.reads is) made.2 in
    let after = spelled_on honest lies items behind entry c.args.buffer.now.items c.loop-ahead.buffer.items
    c.put_entry.new.buffer.items made.0 c.loop-ahead.bytes before made.1 spells in
    record {
      room =
          omega (
            arith,
            inv.room,
            c.in_ok-put_entry.ensures.room,
            c.in-Some.ensures.fits,
            c.size-bytes.ensures,
            longer c.loop-ahead.buffer.items made.0 c.put_entry.new.buffer.items made.1,
            made.2.sized,
          );
      keeps = omega (arith, inv.keeps, c.in_ok-put_entry.ensures.room);
      reads = g.met.R.ReadsBlocks.reads_on old now c.put_entry.new.reader inv.reads c.in_ok-put_entry.ensures.reads;
      fits = omega (arith, c.in-Some.ensures.fits, c.size-bytes.ensures);
      so_far =
          subst (λ (n : ℕ). HasSpelled honest lies items behind c.args.buffer.now.items c.put_entry.new.buffer.items
          (c.loop-ahead.bytes + n)) {x = entry_size c.in-Some.ahead.entry} (sym c.size-bytes.ensures) after;
    }

pub returns-clause-ok : goal.returns-clause-ok
returns-clause-ok g c =
    let parts = c.args.index.now in
    let start = c.args.start in
    let here = c.loop-ahead.cursor in
    let inv = c.loop-ahead.invariant in
    frame_done (g.R.ReadsBlocks.honest c.args.reader.now) (g.R.ReadsBlocks.lies c.args.reader.now)
    (entries_from parts start.part start.at) (entries_from parts here.part here.at) c.args.buffer.now.items
    c.loop-ahead.buffer.items c.loop-ahead.bytes inv.so_far c.requires.some
    (entries_from_fit parts here.part here.at c.parts.ensures.limits) inv.fits c.in_default.ensures.none
