use Rattle.std.proofs.Common.{◌≡◌, List, length, take, ap, sym, subst, ◌∙◌, arith}
use Rattle.volume_core.specs.declared.changes.Change.{Change}
use Rattle.volume_core.specs.Volume.{AllApply, after, changed, refusal_of}
use Rattle.change_records.specs.Records.{spell_all}
use Rattle.test_known.proofs.VolumeLemmas.{carried_next, frame_of_one, spelled_next, taken_next}
use Rattle.test_known.proofs.beside.carried_out.Goals as goal

pub loop-change-preserved : goal.loop-change-preserved
loop-change-preserved c =
    let changes = c.args.changes.now in
    let here = c.loop-change.change-index in
    let change = c.change-item.result in
    let done = take here changes in
    let inv = c.loop-change.invariant in
    let next = taken_next changes here change c.loop-change-test.true c.change-item.is in
    let copied : c.in-Ok.copy ≡ change = c.in-Ok.ensures.copy in
    let all = carried_next c.args.volume c.loop-change.volume c.apply.new.self done change inv.0 inv.1
    (ap (refusal_of c.loop-change.volume) (sym copied) ∙ c.in-Ok-apply.ensures.answer.0)
    (c.in-Ok-apply.ensures.answer.1 ∙ ap (changed c.loop-change.volume) copied) in (
      all.1 ∙ ap (after c.args.volume) (sym next),
      subst (AllApply c.args.volume) (sym next) all.0,
      omega (
        arith,
        inv.2,
        c.frame_size-size.ensures,
        c.if-size-left.false,
        frame_of_one change,
        spelled_next done change,
        ap (λ (l : List Change). length (spell_all l)) next,
      ),
    )
