use Rattle.std.proofs.Common.{◌≡◌, List, None, ap, subst, sym, ◌∙◌}
use Rattle.vtl_base.specs.Below.{advances_nowhere}
use Rattle.volume_core.specs.Volume.{Part, refusal_of}
use Rattle.tape_buffer.specs.Moves.{buffer_below, medium_moves_nowhere, unreported_moves_nowhere}
use Rattle.tape_buffer.specs.State.{BufferState, state_of}
use Rattle.tape_buffer.specs.Taking.{DisksState}
use Rattle.split_bay.specs.declared.items.Item.TheVariants.{Sent}
use Rattle.split_bay.specs.Backs.{FollowsSpan}
use Rattle.split_bay.specs.Spans.{KeepsLimits, Span, span_of, span_next}
use Rattle.split_bay.proofs.TakenLemmas.{applies_next, follows_next, keeps_next, still, takes_more, takes_none}
use Rattle.split_bay.proofs.taking.take_known.Goals as goal

pub changes-init : goal.changes-init
changes-init g c = record {
  follows = c.requires;
  takes = takes_none g.D.Disk.state c.args.receiving.now c.args.medium.now
      (advances_nowhere (buffer_below g.D.Disk.state) (medium_moves_nowhere g.D.Disk.state g.met.D.Disk.is_disk)
      c.args.medium.now.buffer)
      (unreported_moves_nowhere g.D.Disk.state g.met.D.Disk.is_disk c.args.medium.now.buffer);
}

pub take-requires-clause-applies : goal.take-requires-clause-applies
take-requires-clause-applies g c =
    let items = c.changes.receiving.received in
    let change = c.receive-change.result in
    let told = c.receive-change.ensures in
    let within = subst KeepsLimits (ap span_of told.received ∙ span_next items (Sent change)) told.within in
    subst (λ (v : List Part). refusal_of v change ≡ None) (sym c.changes.invariant.follows.looked.volume)
    (applies_next (span_of items) change within)

pub take-requires-clause-within : goal.take-requires-clause-within
take-requires-clause-within g c =
    let items = c.changes.receiving.received in
    let change = c.receive-change.result in
    let told = c.receive-change.ensures in
    let within = subst KeepsLimits (ap span_of told.received ∙ span_next items (Sent change)) told.within in
    keeps_next (span_of items) change within c.changes.medium.left c.changes.invariant.follows.left

pub changes-preserved : goal.changes-preserved
changes-preserved g c =
    let items = c.changes.receiving.received in
    let change = c.receive-change.result in
    let told = c.receive-change.ensures in
    let next = ap span_of told.received ∙ span_next items (Sent change) in
    let within = subst KeepsLimits next told.within in
    let old = c.changes.medium in
    let new = c.take.new.self in
    let first = c.args.medium.now in
    let takes = c.changes.invariant.takes in
    record {
      follows =
          subst (λ (s : Span). FollowsSpan g.D.Disk.state new s) (sym next)
          (follows_next g.D.Disk.state (span_of items) change old new within c.changes.invariant.follows
          c.take.ensures.taken c.take.ensures.state);
      takes =
          takes_more g.D.Disk.state c.args.receiving.now c.changes.receiving c.receive-change.new.self first old new
          change takes told.number told.received told.waiting
          (ap (λ (l : DisksState g.row.D.Denot). l.buffer) c.take.ensures.taken)
          (ap (λ (b : BufferState g.row.D.Denot). (state_of g.D.Disk.state b).failed) takes.pending
          ∙ (still g.D.Disk.state first.buffer takes.found).1)
          c.take.ensures.advances c.take.ensures.moves;
    }
