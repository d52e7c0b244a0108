use Rattle.std.proofs.Common.{refl, ◌∙◌}
use Rattle.vtl_hosts.proofs.ReadLemmas.{reads_none, reads_on}
use Rattle.vtl_hosts.proofs.reading.read_round.Goals as goal

pub loop-init : goal.loop-init
loop-init g c = record {
  reads = reads_none (g.G.Desk.is_taken c.args.desk.now) c.args.frames.now.frames c.args.rings.now _;
  same = refl;
  first = λ _. refl;
}

pub loop-preserved : goal.loop-preserved
loop-preserved g c = record {
  reads =
      reads_on (g.G.Desk.is_taken c.args.desk.now) c.args.frames.now.frames c.loop.frames.frames
      c.read_next.new.frames.frames c.args.rings.now c.loop.rings c.read_next.new.rings _ _ _
      c.loop.invariant.reads (rw c.in-None-2.is at c.in_ok-found.ensures.reads);
  same = c.in_ok-found.ensures.same ∙ c.loop.invariant.same;
  first = λ late. let h = c.if-late.false in cc;
}

pub returns-then-late-clause-reads : goal.returns-then-late-clause-reads
returns-then-late-clause-reads g c = record {
  counted = c.read_next.new.frames.frames;
  behind = g.I.Read.remaining c.read_next.new.reader;
  read =
      reads_on (g.G.Desk.is_taken c.args.desk.now) c.args.frames.now.frames c.loop.frames.frames
      c.read_next.new.frames.frames c.args.rings.now c.loop.rings c.read_next.new.rings _ _ _
      c.loop.invariant.reads (rw c.in-None-2.is at c.in_ok-found.ensures.reads);
  ended = (refl, refl);
}
