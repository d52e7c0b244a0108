use Rattle.std.proofs.Common.{◌≡◌, ◌-◌, ℕ, suc, Some, arith, sym, subst, ◌∙◌, ap}
use Rattle.std.specs.Prelude.{slice_get}
use Rattle.std.proofs.lemmas.Option.{slice_get-get_or}
use Rattle.tape_buffer.specs.Inner.Seeking.{SameAt}
use Rattle.tape_buffer.proofs.SeekingLemmas.{stands_there, stays_so}
use Rattle.tape_buffer.proofs.seeking.last_of.Goals as goal

pub returns-then-reaches : goal.returns-then-reaches
returns-then-reaches c =
    λ volume all.
    let changes = c.args.changes.now in
    let number = c.back.number - 1 in
    let change = c.index-changes-number.result in
    let more : c.back.number ≡ suc number = omega (arith, c.back-test.true) in
    let is : slice_get changes number ≡ Some change =
    slice_get-get_or changes number change (omega (arith, c.back.invariant.few, c.back-test.true))
    ∙ ap Some (sym c.index-changes-number.is) in
    let yes = c.reaches.ensures.yes c.if-reaches.true in
    let same = subst (λ (n : ℕ). SameAt volume changes c.args.part c.args.at n) more
    (c.back.invariant.same volume all) in
    (change, is, stands_there volume changes number change c.args.part c.args.at is all yes.0 yes.1 same)

pub back-preserved : goal.back-preserved
back-preserved c =
    let changes = c.args.changes.now in
    let number = c.back.number - 1 in
    let change = c.index-changes-number.result in
    let more : c.back.number ≡ suc number = omega (arith, c.back-test.true) in
    let is : slice_get changes number ≡ Some change =
    slice_get-get_or changes number change (omega (arith, c.back.invariant.few, c.back-test.true))
    ∙ ap Some (sym c.index-changes-number.is) in
    record {
      few = omega (arith, c.back.invariant.few);
      same =
          λ volume all.
          let same = subst (λ (n : ℕ). SameAt volume changes c.args.part c.args.at n) more
          (c.back.invariant.same volume all) in
          stays_so volume changes number change c.args.part c.args.at is all (c.reaches.ensures.no c.if-reaches.false)
          same;
    }
