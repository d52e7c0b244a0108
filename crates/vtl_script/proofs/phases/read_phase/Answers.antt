use Rattle.std.proofs.Common.{◌≡◌, ◌||◌, true, Err, refl, sym, ap, ◌∙◌, arith}
use Rattle.std.proofs.lemmas.Result.{err_from_is_err_and}
use Rattle.vtl_script.proofs.ReadingLemmas.{err_same, takes_on, past_anyway}
use Rattle.vtl_script.specs.Parsed.{is_phase_end}
use Rattle.vtl_script.specs.declared.faults.ScriptFault.TheVariants.{BadLine}
use Rattle.vtl_script.proofs.DueLemmas.{line_shown}
use Rattle.vtl_script.proofs.PhaseLemmas.{gathered_none, gathers_on, phase_read, phase_refused, or_last}
use Rattle.vtl_script.proofs.phases.read_phase.Goals as goal
use Rattle.vtl_script.proofs.phases.read_phase.Goals.{then-is_end-via-then-is_end, then-is_end-via-else-is_end+then-is_last}

pub loop-lines-init : goal.loop-lines-init
loop-lines-init g c =
    (rw c.new-lines.ensures.items (gathered_none _ _ c.args.line_reader.now), λ shows. (shows, refl))

pub returns-in_err-parsed-clause-refused : goal.returns-in_err-parsed-clause-refused
returns-in_err-parsed-clause-refused g c reason is =
    let exit = err_from_is_err_and c.from_residual.result c.from_residual.ensures.1 in
    let fault = sym exit.2 ∙ err_same c.from_residual.result exit.0 (BadLine reason) exit.1 is in
    phase_refused _ _ _ _ c.args.line_reader.now c.loop-lines.line_reader c.loop-lines.lines.items reason
    c.loop-lines.invariant.0 (c.read_line.ensures.refused reason (c.in_err-parsed.was ∙ ap Err fault))

pub returns-then-is_end-clause-ok : goal.returns-then-is_end-clause-ok
returns-then-is_end-clause-ok g c =
    let next = c.in_ok-parsed.field-0 in
    let ends : (is_phase_end next.parsed || next.is_last) ≡ true =
    elim c.then-is_end.branch [
      | then-is_end-via-then-is_end w ↦ rw (sym c.in_ok-is_end.ensures.ends ∙ w.if-is_end.true) refl
      | then-is_end-via-else-is_end+then-is_last w ↦ rw w.if-is_last.true (or_last (is_phase_end next.parsed))
    ] in
    phase_read _ _ _ _ c.args.line_reader.now c.loop-lines.line_reader c.read_line.new.line_reader
    c.loop-lines.lines.items next _ c.loop-lines.invariant.0 c.in_ok-parsed.ensures.ok ends refl
    c.move_in-moved.ensures c.in_ok-is_end.ensures.lines

pub loop-lines-preserved : goal.loop-lines-preserved
loop-lines-preserved g c = (
  gathers_on _ _ _ _ c.args.line_reader.now c.loop-lines.line_reader c.read_line.new.line_reader
      c.loop-lines.lines.items c.gather.new.lines.items c.in_ok-parsed.field-0 c.loop-lines.invariant.0
      c.in_ok-parsed.ensures.ok c.if-is_last.false (sym c.in_ok-is_end.ensures.ends ∙ c.if-is_end.false)
      c.in_ok-is_end.ensures.lines,
  λ shows.
      let so = c.loop-lines.invariant.1 shows in (
        c.in_ok-parsed.ensures.goes_on so.0 c.if-is_last.false
            (sym c.in_ok-is_end.ensures.ends ∙ c.if-is_end.false),
        c.read_line.ensures.due (line_shown (g.P.Runner.is_configured c.args.runner.now)
            c.loop-lines.line_reader.unread so.0) ∙ so.1,
      ),
)

pub returns-in_err-parsed-clause-past : goal.returns-in_err-parsed-clause-past
returns-in_err-parsed-clause-past g c =
    let exit = err_from_is_err_and c.from_residual.result c.from_residual.ensures.1 in
    let so = c.loop-lines.invariant.0 in
    rw (exit.1, exit.2) (λ other. takes_on _ _ _ c.args.line_reader.now.bytes c.loop-lines.line_reader.bytes so.read
    so.taken so.bytes (c.in_err-parsed.ensures.past other))

pub returns-in_err-is_end-clause-past : goal.returns-in_err-is_end-clause-past
returns-in_err-is_end-clause-past g c =
    let so = c.loop-lines.invariant.0 in
    let next = c.in_ok-parsed.ensures.ok in
    past_anyway _ _ c.args.line_reader.now.bytes _
    (takes_on _ _ _ c.args.line_reader.now.bytes c.loop-lines.line_reader.bytes so.read so.taken so.bytes
    (next.read, next.taken, omega (arith, next.bytes, next.within)))

pub returns-in_err-parsed-clause-due : goal.returns-in_err-parsed-clause-due
returns-in_err-parsed-clause-due g c = λ shows.
    let so = c.loop-lines.invariant.1 shows in
    c.read_line.ensures.due (line_shown (g.P.Runner.is_configured c.args.runner.now) c.loop-lines.line_reader.unread
    so.0) ∙ so.1

pub returns-then-is_end-clause-due : goal.returns-then-is_end-clause-due
returns-then-is_end-clause-due g c = λ shows.
    let so = c.loop-lines.invariant.1 shows in
    c.read_line.ensures.due (line_shown (g.P.Runner.is_configured c.args.runner.now) c.loop-lines.line_reader.unread
    so.0) ∙ so.1

pub returns-in_err-is_end-clause-due : goal.returns-in_err-is_end-clause-due
returns-in_err-is_end-clause-due g c = λ shows.
    let so = c.loop-lines.invariant.1 shows in
    c.read_line.ensures.due (line_shown (g.P.Runner.is_configured c.args.runner.now) c.loop-lines.line_reader.unread
    so.0) ∙ so.1
