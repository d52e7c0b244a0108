use Rattle.std.proofs.Common.{ℕ, List, length, take, drop, ◌-◌, refl, ap, sym, ◌∙◌, ◌++◌}
use Rattle.std.proofs.lemmas.List.{append-nil}
use Rattle.gate_journal.specs.Inner.Reading.{numbers_of}
use Rattle.gate_journal.proofs.Numbers.{numbers_none, one_more}
use Rattle.gate_journal.proofs.reading.numbers.Goals as goal

pub loop-rest-preserved : goal.loop-rest-preserved
loop-rest-preserved c =
    ap (λ (l : List ℕ). l ++ numbers_of (take (length c.loop-rest.rest.now - 8) (drop 8 c.loop-rest.rest.now)))
    c.in_ok-push.ensures.items
    ∙ one_more c.loop-rest.numbers.items c.loop-rest.rest.now (numbers_of c.args.bytes.now) c.read_u64.result
    (length c.loop-rest.rest.now) refl c.loop-rest-test.true c.read_u64.ensures c.loop-rest.invariant

pub returns : goal.returns
returns c =
    sym (append-nil c.loop-rest.numbers.items)
    ∙ ap (λ (l : List ℕ). c.loop-rest.numbers.items ++ l)
    (sym (numbers_none c.loop-rest.rest.now c.loop-rest-test.false))
    ∙ c.loop-rest.invariant
