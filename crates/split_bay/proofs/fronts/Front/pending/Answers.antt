use Rattle.std.proofs.Common.{◌≡◌, ap, subst, sym, ◌∙◌}
use Rattle.drive_commands.specs.State.{medium_in}
use Rattle.split_bay.specs.Fronts.{FrontState, pending_of}
use Rattle.split_bay.specs.Spans.{span_of}
use Rattle.split_bay.proofs.FrontLemmas.{pending_in}
use Rattle.split_bay.proofs.fronts.Front.pending.Goals as goal

pub returns-else-is_awake : goal.returns-else-is_awake
returns-else-is_awake g c =
    let state = g.D.Disk.state in
    let i = c.self.inside in
    subst (λ (f : FrontState g.row.D.Denot). 0 ≡ pending_of state (medium_in f.drive.bay)) c.self.view_is
    (pending_in state i.drive.bay c.in-Some.medium.now (span_of i.sending.sent) c.self.invariant.0
    c.in-Some.ensures.medium (sym c.is_awake.ensures ∙ c.if-is_awake.false))

pub returns-then-is_awake : goal.returns-then-is_awake
returns-then-is_awake g c =
    let state = g.D.Disk.state in
    subst (λ (f : FrontState g.row.D.Denot). c.pending.result ≡ pending_of state (medium_in f.drive.bay))
    c.self.view_is (c.pending.ensures ∙ ap (pending_of state) c.in-Some.ensures.medium)

pub pending-requires : goal.pending-requires
pending-requires g c = sym c.is_awake.ensures ∙ c.if-is_awake.true
