use Rattle.std.proofs.Common.{◌≡◌, ◌≤◌, ℕ, subst, ◌∙◌, arith}
use Rattle.std.specs.Prelude.{slice_index_or}
use Rattle.std.proofs.lemmas.List.{get_or_default}
use Rattle.gate_journal.specs.State.{IsBodyAt}
use Rattle.cartridge.proofs.ReclaimLemmas.{one_more}
use Rattle.cartridge.proofs.reclaiming.see_bodies.Goals as goal

pub loop-frame-preserved : goal.loop-frame-preserved
loop-frame-preserved g c = λ honest.
    let journal = c.args.journal.now in
    let seen = (g.D.Disk.state journal.disk).seen in
    let here = c.loop-frame.frame in
    let found = c.body_at.result in
    let same : found ≡ slice_index_or journal.extents here (0, 0) =
    c.body_at.ensures.value
    ∙ get_or_default journal.extents here found (0, 0)
    (omega (arith, c.loop-frame-test.true, c.frames-frame-end.ensures.extents)) in
    one_more
    (λ frame. (1 ≤ (slice_index_or journal.extents frame (0, 0)).1)
    × IsBodyAt seen journal.front journal.bodies frame (slice_index_or journal.extents frame (0, 0)))
    here (c.loop-frame.invariant honest)
    (subst (λ (e : ℕ × ℕ). (1 ≤ e.1) × IsBodyAt seen journal.front journal.bodies here e) same
    (c.body_at.ensures.inside.some, c.body_at.ensures.body honest))

pub returns : goal.returns
returns g c = λ honest frame inside.
    c.loop-frame.invariant honest frame (omega arith)
