use Rattle.check_lines.specs.SideText.{not_a_side_line}
use Rattle.check_lines.proofs.CheckLemmas.{PrintsStoreRefusal, store_refusal_shown, store_shown}
use Rattle.check_lines.proofs.SideTextLemmas.{line_shown}
use Rattle.check_lines.proofs.checking.check_store.Goals as goal
use Rattle.check_lines.proofs.checking.check_store.Goals.{in-NotOurs, in-Damaged, in-BadRecord, in-Device, in-NoMemory}

pub returns-in-Ok-clause-text : goal.returns-in-Ok-clause-text
returns-in-Ok-clause-text g c =
    rw c.close-first.ensures
    (store_shown c.in-Ok.store.heading c.in-Ok.store.states c.in-Ok.left c.text_or_fault-lines.result
    c.states_text.result
    (g.D.Disk.state c.args.first) (g.D.Disk.state c.in-Ok.store.disk) c.text_or_fault-lines.ensures.ok
    c.states_text.ensures
    c.in-Ok.ensures.ok.3 c.in-Ok.ensures.gives)

pub returns-after-error-clause-text : goal.returns-after-error-clause-text
returns-after-error-clause-text g c =
    let printed : PrintsStoreRefusal c.in-Err.refused.error c.match-error.lines =
    elim c.match-error.branch [
      | in-NotOurs w ↦ rw (w.in-NotOurs.is, w.lines-is)
          (line_shown w.line_text-lines.result w.format.result not_a_side_line w.format.ensures.ok
          w.line_text-lines.ensures.ok)
      | in-Damaged w ↦ rw (w.in-Damaged.is, w.lines-is) w.damaged_text-lines.ensures.ok
      | in-BadRecord w ↦ rw (w.in-BadRecord.is, w.lines-is) w.bad_record_text-lines.ensures.ok
      | in-Device w ↦ rw (w.in-Device.is, w.lines-is) tt
      | in-NoMemory w ↦ rw (w.in-NoMemory.is, w.lines-is) tt
    ] in
    store_refusal_shown c.in-Err.refused.error c.match-error.lines (g.D.Disk.state c.args.first)
    (g.D.Disk.state c.in-Err.refused.disk) c.in-Err.ensures.refused printed
