-- The hosts' half is asked alone: the core of the cartridge, and what both halves keep.
use Rattle.std.proofs.Common.{◌≡◌, ◌++◌, ℕ, List, [], length, map, Bool, true, false, Option, None, Some, refl, sym, ◌∙◌, ap, subst, arith, length-append}
use Rattle.std.specs.Prelude.{option_map, is_some}
use Rattle.std.proofs.lemmas.List.{append-nil}
use Rattle.tape_disk.specs.Disk.{DiskState, IsDisk}
use Rattle.scsi_sense.specs.declared.replies.Reply.{Reply}
use Rattle.volume_core.specs.declared.changes.Change.{Change}
use Rattle.cartridge.specs.State.{ClosedCartridge, OpenCartridge}
use Rattle.drive_commands.specs.declared.bays.Bay.{Bay}
use Rattle.drive_commands.specs.declared.bays.Bay.TheVariants.{Empty, Unloaded, Loaded}
use Rattle.drive_commands.specs.Work.{Request}
use Rattle.tape_buffer.specs.declared.holding.Holding.{Holding}
use Rattle.tape_buffer.specs.declared.holding.Holding.TheVariants.{Open, Closed, Away}
use Rattle.tape_buffer.specs.Moves.{with_changes}
use Rattle.tape_buffer.specs.State.{BufferState}
use Rattle.tape_buffer.specs.Taking.{DisksState}
use Rattle.split_bay.specs.declared.items.Item.{Item}
use Rattle.split_bay.specs.declared.items.Item.TheVariants.{Sent}
use Rattle.split_bay.specs.Backs.{KeepsDiskHalf}
use Rattle.split_bay.specs.Fronts.{FrontState, OwesHeld, OwesIn}
use Rattle.split_bay.specs.Spans.{KeepsLimits, Span, medium_begun, span_of, span_more}
use Rattle.split_runs.specs.Calls.{AcceptsAlone, HalvesState, KeepsHalves, StepsAlone, is_told, whole_medium}
use Rattle.split_runs.specs.Cores.{CoreMovesIn, HalvesMove}
use Rattle.split_runs.proofs.AcceptLemmas.{accepts_behind, begins_same, none_of, sent_behind}
use Rattle.split_runs.proofs.CoreLemmas.{moves_still}
use Rattle.split_runs.proofs.PartLemmas.{both_ways}

module _ {D : Type 0} (state : D → DiskState) (is_disk : (disk : D) → (state disk).honest → IsDisk (state disk)) where
  -- what was sent by the hosts' half alone
  hosts_sent : (old new : FrontState D) (request : Request) (result : Option Reply) (left : List ℕ)
      (made : List Change) → AcceptsAlone state old request result made new left
      → new.sending.sent ≡ old.sending.sent ++ map Sent made
  hosts_sent old new request None left made answers =
      ap (λ (f : FrontState D). f.sending.sent) answers.0.1 ∙ sym (append-nil old.sending.sent)
      ∙ ap (λ (l : List Change). old.sending.sent ++ map Sent l) (sym answers.1)
  hosts_sent old new request (Some reply) left made answers =
      (λ i. (answers.0.sending i).sent)
      ∙ ap (λ (l : List Change). old.sending.sent ++ map Sent l) (answers.0.made ∙ sym answers.1)

  -- without a medium nothing is sent
  none_away : (held : Holding (OpenCartridge D) (ClosedCartridge D)) (span : Span) → OwesHeld held span
      → is_some span.begin.seen ≡ false → span.since ≡ []
  none_away (Open c) span owes none = absurd owes
  none_away (Closed c) span owes none = absurd owes
  none_away (Away a) span owes none = both_ways (is_some span.begin.seen) owes.there none

  none_owed : (bay : Bay (BufferState D)) (span : Span) → OwesIn bay span → is_some span.begin.seen ≡ false
      → span.since ≡ []
  none_owed Empty span owes none = ap (λ (s : Span). s.since) owes
  none_owed (Unloaded medium) span owes none = none_away medium.held span owes none
  none_owed (Loaded medium) span owes none = none_away medium.held span owes none

  -- the hosts' half is asked alone
  module _ (old new : HalvesState D) (request : Request) (result : Option Reply) (left : List ℕ) (made : List Change)
      (keeps : KeepsHalves state old) (step : StepsAlone state old request result left made new) where
    sent_then : new.front.sending.sent ≡ old.front.sending.sent ++ map Sent made
    sent_then = hosts_sent old.front new.front request result left made step.answers

    sent_all : new.front.sending.sent ≡ old.back.received ++ map Sent (old.waiting ++ made)
    sent_all =
        sent_then ∙ ap (λ (l : List Item). l ++ map Sent made) keeps.ring
        ∙ sent_behind old.back.received old.waiting made

    begin : (span_of new.front.sending.sent).begin ≡ (span_of old.front.sending.sent).begin
    begin = ap (λ (l : List Item). (span_of l).begin) sent_then ∙ begins_same old.front.sending.sent made

    told_same : is_told new ≡ is_told old
    told_same = ap (λ b. (medium_begun (record { begin = b; since = [] })).failed) begin

    pub alone_keeps : KeepsHalves state new
    alone_keeps =
        record {
          front = step.keeps;
          back = subst (KeepsDiskHalf state) (sym step.back) keeps.back;
          ring = sent_all ∙ (λ i. (sym step.back i).received ++ map Sent (sym step.waiting i));
          spent = λ failed. ap (λ b. b.left) begin ∙ keeps.spent (sym told_same ∙ failed);
        }

    -- the span in which hosts are, with what they sent
    since_then : (span_of new.front.sending.sent).since ≡ (span_of old.front.sending.sent).since ++ made
    since_then =
        ap (λ (l : List Item). (span_of l).since) sent_then
        ∙ ap (λ (s : Span). s.since) (span_more old.front.sending.sent made)

    -- hosts that were told of a fault accept nothing more
    pub none_told : is_told old ≡ true → made ≡ []
    none_told told =
        none_of made
        (omega (
          arith,
          step.keeps.within.few,
          ap (λ b. b.left) begin,
          keeps.spent told,
          ap (λ (l : List Change). length l) since_then,
          length-append (span_of old.front.sending.sent).since made,
        ))

    -- without a medium nothing is accepted
    none_there : is_some (span_of old.front.sending.sent).begin.seen ≡ false → made ≡ []
    none_there none =
        none_of made
        (omega (
          arith,
          ap (λ (l : List Change). length l) (none_owed new.front.drive.bay (span_of new.front.sending.sent)
              step.keeps.stands.0 (ap (λ b. is_some b.seen) begin ∙ none)),
          ap (λ (l : List Change). length l) since_then,
          length-append (span_of old.front.sending.sent).since made,
        ))

    seen_same : (span_of old.front.sending.sent).begin ≡ (span_of old.back.received).begin
    seen_same = ap (λ (l : List Item). (span_of l).begin) keeps.ring ∙ begins_same old.back.received old.waiting

    whole_is : option_map (λ (m : DisksState D). with_changes m.buffer (old.waiting ++ made)) old.back.medium
        ≡ whole_medium new
    whole_is =
        λ i. option_map (λ (m : DisksState D). with_changes m.buffer (sym step.waiting i)) (sym step.back i).medium

    accepts : (t : Bool) → is_told old ≡ t
        → CoreMovesIn state (whole_medium old) t made
        (option_map (λ (m : DisksState D). with_changes m.buffer (old.waiting ++ made)) old.back.medium) t
    accepts true told =
        let none = none_told told in
        subst
        (λ (l : List Change).
        CoreMovesIn state (whole_medium old) true l
        (option_map (λ (m : DisksState D). with_changes m.buffer (old.waiting ++ l)) old.back.medium) true)
        (sym none)
        (subst
        (λ (w : List Change).
        CoreMovesIn state (whole_medium old) true []
        (option_map (λ (m : DisksState D). with_changes m.buffer w) old.back.medium) true)
        (sym (append-nil old.waiting)) (moves_still state is_disk (whole_medium old) true))
    accepts false told =
        accepts_behind state is_disk old.back.medium old.back.received old.waiting made keeps.back.follows
        keeps.back.cartridge
        (subst (λ (l : List Item). KeepsLimits (span_of l)) sent_all step.keeps.within)
        (λ none. none_there (ap (λ b. is_some b.seen) seen_same ∙ none))

    pub alone_moves : HalvesMove state old made new
    alone_moves =
        subst (λ (t : Bool). CoreMovesIn state (whole_medium old) (is_told old) made (whole_medium new) t)
        (sym told_same)
        (subst
        (λ (m : Option (BufferState D)). CoreMovesIn state (whole_medium old) (is_told old) made m (is_told old))
        whole_is (accepts (is_told old) refl))
