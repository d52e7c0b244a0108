use Rattle.std.proofs.Common.{◌≡◌, List, inl, inr, ap, sym, subst, arith}
use Rattle.std.proofs.lemmas.Bool.{cases_eq}
use Rattle.object_index.specs.Places.{PlacedPart, reserved_of}
use Rattle.cartridge.specs.Inner.Growing.{IsGrown}
use Rattle.cartridge.proofs.GrowingLemmas.{grown_length, grown_reserved, grown_same, grown_then, reserve_grown}
use Rattle.cartridge.proofs.StoringLemmas.{on_err_any}
use Rattle.cartridge.proofs.reserving.reserve_each.Goals as goal

pub loop-part-init : goal.loop-part-init
loop-part-init c = record {
  grown = grown_same c.args.index.now;
  room = λ p below. absurd (omega (arith, below));
}

pub reserve-requires : goal.reserve-requires
reserve-requires c = omega (
  arith,
  c.loop-part-test.true,
  c.parts-part-end.ensures.parts,
  grown_length c.args.index.now c.loop-part.index c.loop-part.invariant.grown,
)

pub returns-in_err-reserve-clause-err : goal.returns-in_err-reserve-clause-err
returns-in_err-reserve-clause-err c = on_err_any c.from_residual.result (
  c.loop-part.part,
  omega (arith, c.loop-part-test.true, c.parts-part-end.ensures.parts),
  omega (
    arith,
    c.in_err-reserve.ensures.err.0,
    grown_reserved c.args.index.now c.loop-part.index c.loop-part.part c.loop-part.invariant.grown,
  ),
)

pub loop-part-preserved : goal.loop-part-preserved
loop-part-preserved c =
    let new = c.reserve.new.self in
    let part = c.loop-part.part in
    let more : IsGrown c.loop-part.index new =
    subst (λ (x : List PlacedPart). IsGrown c.loop-part.index x) (sym c.in_ok-reserve.ensures.same)
    (reserve_grown c.loop-part.index part (reserved_of new part) c.in_ok-reserve.ensures.grows) in
    record {
      grown = grown_then c.args.index.now c.loop-part.index new c.loop-part.invariant.grown more;
      room = λ p below. elim (cases_eq p part) [
        | inl same ↦
            omega (
              arith,
              ap (reserved_of new) same,
              c.in_ok-reserve.ensures.ok,
            )
        | inr other ↦
            omega (
              arith,
              c.loop-part.invariant.room p (let h : p ≡ part → ⊥ = other in omega (arith, below, h)),
              grown_reserved c.loop-part.index new p more,
            )
      ];
    }

pub returns-clause-ok : goal.returns-clause-ok
returns-clause-ok c = λ part inside.
    c.loop-part.invariant.room part
    (omega (
      arith,
      inside,
      c.loop-part-test.false,
      c.parts-part-end.ensures.parts,
      grown_length c.args.index.now c.loop-part.index c.loop-part.invariant.grown,
    ))
