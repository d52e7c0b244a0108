use Rattle.std.proofs.Common.{inl, inr, ⊎_elim, ap, length, arith}
use Rattle.file_disk.proofs.RestedLemmas.{rested_none, rested_then}
use Rattle.file_disk.proofs.again.write_again.Goals as goal

pub loop-left-init : goal.loop-left-init
loop-left-init g c = record {
  rested = rested_none g.F.RawFile.state g.F.RawFile.passed_over g.F.RawFile.unsynced c.args.file.now;
  further = omega arith;
  again = λ honest place passed after. after;
  adds = λ honest place written. inl written;
}

pub again_on-requires-clause-inside : goal.again_on-requires-clause-inside
again_on-requires-clause-inside g c = λ honest.
    let so = c.loop-left.invariant in
    let was = so.rested.honesty.was_honest honest in
    omega (arith, c.requires.inside was, ap length (so.rested.rests was).seen)

pub loop-left-preserved : goal.loop-left-preserved
loop-left-preserved g c =
    let so = c.loop-left.invariant in
    let stays = so.rested.honesty.stays_honest in record {
      rested = rested_then g.F.RawFile.state g.F.RawFile.passed_over g.F.RawFile.unsynced c.args.file.now
          c.loop-left.file c.again_on.new.file so.rested c.again_on.ensures.rested;
      further = omega (arith, so.further, c.in_ok-at.ensures.bound.0);
      again = λ honest place passed after.
          c.in_ok-at.ensures.again (stays honest) place passed
          (so.again honest place (c.again_on.ensures.rested.reaches (stays honest) place passed) after);
      adds = λ honest place written. ⊎_elim (so.adds honest place)
          (λ found. inr (omega (arith, so.further, found.0), found.1))
          (c.again_on.ensures.unsynced (stays honest) place written);
    }
