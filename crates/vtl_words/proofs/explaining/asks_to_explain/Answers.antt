use Rattle.std.proofs.Common.{sym, ◌∙◌}
use Rattle.vtl_words.proofs.ExplainLemmas.{option_here, end_here, none_here}
use Rattle.vtl_words.proofs.explaining.asks_to_explain.Goals as goal

pub returns-then-eq : goal.returns-then-eq
returns-then-eq c =
    sym (sym c.loop-place.invariant
    ∙ option_here c.args.words.now c.loop-place.place c.loop-place-test.true c.index-words-place.result _
    c.index-words-place.is c.as_str-word.ensures.value (sym c.if-eq.ensures))

pub returns-then-eq-2 : goal.returns-then-eq-2
returns-then-eq-2 c =
    sym (sym c.loop-place.invariant
    ∙ end_here c.args.words.now c.loop-place.place c.loop-place-test.true c.index-words-place.result _
    c.index-words-place.is c.as_str-word.ensures.value (sym c.if-eq.ensures) (sym c.if-eq-2.ensures))

pub loop-place-preserved : goal.loop-place-preserved
loop-place-preserved c =
    sym (none_here c.args.words.now c.loop-place.place c.loop-place-test.true c.index-words-place.result _
    c.index-words-place.is c.as_str-word.ensures.value (sym c.if-eq.ensures) (sym c.if-eq-2.ensures))
    ∙ c.loop-place.invariant
