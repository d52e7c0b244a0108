use Rattle.std.proofs.Common.{◌≡◌, ℕ, suc, ◌+◌, sym, ap, ◌∙◌, arith}
use Rattle.volume_copy.specs.Entries.{entries_from}
use Rattle.volume_copy.specs.EntryFacts.{next_part}
use Rattle.volume_copy.proofs.cursor.Cursor.settled.Goals as goal

pub overflow_add-cursor : goal.overflow_add-cursor
overflow_add-cursor c =
    let ended = c.is_at_end.ensures.yes c.loop-cursor-test.true in omega (arith, ended.0, ended.1)

pub loop-cursor-preserved : goal.loop-cursor-preserved
loop-cursor-preserved c =
    let parts = c.args.index.now in
    let here = c.loop-cursor.cursor in
    let same : here.part + 1 ≡ suc here.part = omega arith in
    let ended = c.is_at_end.ensures.yes c.loop-cursor-test.true in
    ap (λ (n : ℕ). entries_from parts n 0) same
    ∙ sym (next_part parts here.part here.at ended.2)
    ∙ c.loop-cursor.invariant
