use Rattle.std.proofs.Common.{ℕ, length, refl, sym, ◌∙◌}
use Rattle.std.specs.Prelude.{IsTrue}
use Rattle.std.proofs.lemmas.Bool.{false≢true}
use Rattle.std.proofs.lemmas.List.Elements.{All-cons, All-head, All-nil, All-same, All-tail}
use Rattle.vtl_base.specs.Limits.{is_capacity}
use Rattle.gate_journal.proofs.Numbers.{numbers_none, numbers_step}
use Rattle.gate_journal.proofs.spelling.hold_capacities.Goals as goal

abbrev Allowed : ℕ → Type 0
Allowed bytes = IsTrue (is_capacity bytes)

pub loop-rest-preserved : goal.loop-rest-preserved
loop-rest-preserved c =
    let i = c.loop-rest.invariant in
    let step = numbers_step c.loop-rest.rest.now c.read_u64.result (length c.loop-rest.rest.now) refl
    c.loop-rest-test.true c.read_u64.ensures in
    record {
      to = λ all. i.to (All-same Allowed _ _ step
          (All-cons Allowed _ _ (c.is_capacity.ensures.0 c.if-not-is_capacity.false) all));
      back = λ all. All-tail Allowed _ _ (All-same Allowed _ _ (sym step) (i.back all));
    }

pub returns-then-not-is_capacity : goal.returns-then-not-is_capacity
returns-then-not-is_capacity c =
    let step = numbers_step c.loop-rest.rest.now c.read_u64.result (length c.loop-rest.rest.now) refl
    c.loop-rest-test.true c.read_u64.ensures in (
      λ never. absurd (false≢true never),
      λ all. absurd (false≢true (sym c.if-not-is_capacity.true ∙ c.is_capacity.ensures.1
          (All-head Allowed _ _ (All-same Allowed _ _ (sym step) (c.loop-rest.invariant.back all))))),
    )

pub returns : goal.returns
returns c = (
  λ yes. c.loop-rest.invariant.to (All-same Allowed _ _ (numbers_none c.loop-rest.rest.now c.loop-rest-test.false)
      (All-nil Allowed)),
  λ all. refl,
)
