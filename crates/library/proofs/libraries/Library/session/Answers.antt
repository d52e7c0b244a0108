use Rattle.std.proofs.Common.{◌≡◌, ℕ, [], ◌∷◌, ◌++◌, ◌+◌, nat_eq, take, get_or, ap, subst, sym, ◌∙◌, arith}
use Rattle.std.proofs.lemmas.List.{get_or-set_other, take_more}
use Rattle.vtl_script.specs.declared.lines.Line.{Line}
use Rattle.bay_moves.specs.Runs.{line_request}
use Rattle.library.specs.Counts.{has_drive}
use Rattle.library.specs.Served.{IsServed}
use Rattle.library.proofs.SessionLemmas.{equal_if, passes_at, session_host, session_on}
use Rattle.library.proofs.libraries.Library.session.Goals as goal

pub serve_line-reply-requires-clause-host : goal.serve_line-reply-requires-clause-host
serve_line-reply-requires-clause-host g c =
    let line = c.line-item.result in
    let at = c.loop-line.line-index in
    let same = session_host g.D.Disk.state c.args.seat.now c.loop-line.seat (take at c.args.lines.now)
    c.loop-line.replies.items c.loop-line.invariant.0 in
    ap (λ (l : Line). l.host) (sym c.line-item.is)
    ∙ equal_if line.host c.args.seat.now.nexus (passes_at (λ l. nat_eq l.host c.args.seat.now.nexus) c.args.lines.now at
    line c.requires.hosts c.loop-line-test.true (c.line-item.is ∙ c.loop-line.invariant.3 at line (omega arith)))
    ∙ sym same

pub serve_line-reply-requires-clause-configured : goal.serve_line-reply-requires-clause-configured
serve_line-reply-requires-clause-configured g c =
    let line = c.line-item.result in
    let at = c.loop-line.line-index in
    ap (λ (l : Line). has_drive c.args.self.now l.drive) (sym c.line-item.is)
    ∙ passes_at (λ l. has_drive c.args.self.now l.drive) c.args.lines.now at line c.requires.configured
    c.loop-line-test.true (c.line-item.is ∙ c.loop-line.invariant.3 at line (omega arith))

pub loop-line-preserved : goal.loop-line-preserved
loop-line-preserved g c =
    let state = g.D.Disk.state in
    let lines = c.args.lines.now in
    let line = c.line-item.result in
    let at = c.loop-line.line-index in
    let is : line ≡ get_or lines at line = c.line-item.is ∙ c.loop-line.invariant.3 at line (omega arith) in
    let taken : take (at + 1) lines ≡ take at lines ++ line ∷ [] =
    take_more lines at line c.loop-line-test.true ∙ ap (λ (x : Line). take at lines ++ x ∷ []) (sym is) in
    let step : IsServed state (line_request line) c.loop-line.seat c.serve_line-reply.result
    c.serve_line-reply.new.seat =
    subst (λ (l : Line). IsServed state (line_request l) c.loop-line.seat c.serve_line-reply.result
    c.serve_line-reply.new.seat) (sym c.line-item.is) c.serve_line-reply.ensures in
    let so =
    session_on state c.args.seat.now c.loop-line.seat c.serve_line-reply.new.seat (take at lines) line
    c.loop-line.replies.items c.serve_line-reply.result c.loop-line.invariant.0 step in
    let pushed = rw c.unwrap.ensures at c.push.ensures.items in
    let longer = rw c.unwrap.ensures at c.push.ensures.len in (
      rw (taken, pushed) so,
      longer ∙ ap (λ (n : ℕ). n + 1) c.loop-line.invariant.1,
      omega (arith, c.push.ensures.capacity, c.loop-line.invariant.2),
      λ k d more. get_or-set_other c.loop-line.line-items at k c.serve_line-reply.new.line d
          (λ same. absurd (omega (arith, same, more))) ∙ c.loop-line.invariant.3 k d (omega (arith, more)),
    )
