use Rattle.std.proofs.Common.{◌≡◌, ℕ, [], ◌∷◌, ◌++◌, ◌+◌, take, get_or, ap, subst, sym, ◌∙◌, arith}
use Rattle.std.proofs.lemmas.List.{get_or-set_other, take_more}
use Rattle.vtl_script.specs.declared.lines.Line.{Line}
use Rattle.bay_moves.specs.Commands.{Commands}
use Rattle.bay_moves.specs.Runs.{is_configured_in, line_request}
use Rattle.bay_moves.proofs.RunnerLemmas.{passes_at, phase_on}
use Rattle.bay_moves.proofs.ServedLemmas.{commands_keep}
use Rattle.bay_moves.proofs.held.Held.run_lines.Goals as goal

pub run_line-reply-requires : goal.run_line-reply-requires
run_line-reply-requires g c =
    let line = c.line-item.result in
    let at = c.loop-line.line-index in
    ap (λ (l : Line). is_configured_in c.loop-line.self l.drive) (sym c.line-item.is)
    ∙ c.loop-line.invariant.3 line.drive
    ∙ passes_at (λ l. is_configured_in c.args.self.now l.drive) c.args.lines.now at line c.requires
    c.loop-line-test.true (c.line-item.is ∙ c.loop-line.invariant.4 at line (omega arith))

pub loop-line-preserved : goal.loop-line-preserved
loop-line-preserved g c =
    let state = g.D.Disk.state in
    let lines = c.args.lines.now in
    let line = c.line-item.result in
    let at = c.loop-line.line-index in
    let is : line ≡ get_or lines at line = c.line-item.is ∙ c.loop-line.invariant.4 at line (omega arith) in
    let taken : take (at + 1) lines ≡ take at lines ++ line ∷ [] =
    take_more lines at line c.loop-line-test.true ∙ ap (λ (x : Line). take at lines ++ x ∷ []) (sym is) in
    let step : Commands state line.drive (line_request line) c.loop-line.self c.run_line-reply.result
    c.run_line-reply.new.self =
    subst (λ (l : Line). Commands state l.drive (line_request l) c.loop-line.self c.run_line-reply.result
    c.run_line-reply.new.self) (sym c.line-item.is) c.run_line-reply.ensures in
    let so =
    phase_on state c.args.self.now c.loop-line.self c.run_line-reply.new.self (take at lines) line
    c.loop-line.replies.items c.run_line-reply.result c.loop-line.invariant.0 step in
    let pushed = rw c.unwrap.ensures at c.push.ensures.items in
    let longer = rw c.unwrap.ensures at c.push.ensures.len in (
      rw (taken, pushed) so,
      longer ∙ ap (λ (n : ℕ). n + 1) c.loop-line.invariant.1,
      omega (arith, c.push.ensures.capacity, c.loop-line.invariant.2),
      λ number. commands_keep state line.drive (line_request line) c.loop-line.self c.run_line-reply.result
          c.run_line-reply.new.self step number ∙ c.loop-line.invariant.3 number,
      λ k d more. get_or-set_other c.loop-line.line-items at k c.run_line-reply.new.line d
          (λ same. absurd (omega (arith, same, more))) ∙ c.loop-line.invariant.4 k d (omega (arith, more)),
    )
