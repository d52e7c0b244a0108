use Rattle.std.proofs.Common.{◌≡◌, ◌∙◌, ℕ, take, subst, arith}
use Rattle.std.proofs.lemmas.List.{length-set}
use Rattle.library.specs.Ends.{counts_of}
use Rattle.library.proofs.LoopLemmas.{counted_all, counted_on}
use Rattle.library.proofs.finishing.counts_in.Goals as goal

pub loop-place-preserved : goal.loop-place-preserved
loop-place-preserved g c = record {
  long = length-set c.loop-place.counts c.loop-place.place c.count.result ∙ c.loop-place.invariant.long;
  same =
      counted_on c.loop-place.counts c.args.row.now c.loop-place.place c.count.result c.loop-place.invariant.long
      c.known.ensures c.loop-place-test.true c.count.ensures c.loop-place.invariant.same;
}

pub returns : goal.returns
returns g c =
    let at : c.loop-place.place ≡ 16 = omega (arith, c.loop-place-test.false, c.loop-place.auto.place-end) in
    counted_all c.loop-place.counts c.args.row.now c.loop-place.invariant.long c.known.ensures
    (subst (λ (n : ℕ). take n c.loop-place.counts ≡ take n (counts_of c.args.row.now)) at c.loop-place.invariant.same)
