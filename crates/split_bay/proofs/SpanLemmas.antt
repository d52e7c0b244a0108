-- Spans, and what is sent in them.
use Rattle.std.proofs.Common.{◌≡◌, ◌++◌, ◌-◌, ◌%◌, ◌^◌, ℕ, List, [], ◌∷◌, length, map, sum_by, None, refl, sym, ◌∙◌, ap, subst, arith, append_assoc, length-append}
use Rattle.std.proofs.lemmas.List.{append-nil}
use Rattle.std.proofs.lemmas.List.Sums.{sum_by-append}
use Rattle.volume_core.specs.declared.changes.Change.{Change}
use Rattle.volume_core.specs.Medium.{block_bytes, frame_size, volume_of, volume_or_empty}
use Rattle.volume_core.specs.Stores.{after_append}
use Rattle.volume_core.specs.Volume.{AllApply, Part, after, changed, refusal_of}
use Rattle.tape_buffer.specs.Limits.{frame_of}
use Rattle.split_bay.specs.declared.items.Item.{Item}
use Rattle.split_bay.specs.declared.items.Item.TheVariants.{Sent}
use Rattle.split_bay.specs.Rings.{IsCounted}
use Rattle.split_bay.specs.Spans.{KeepsLimits, Span, TakesMore, begins, medium_begun, span_next, span_of, span_with, spans_in, volume_seen}

-- one that applies behind others applies with them
pub apply_more : (volume : List Part) (xs : List Change) (change : Change) → AllApply volume xs
    → refusal_of (after volume xs) change ≡ None → AllApply volume (xs ++ change ∷ [])
apply_more volume [] change all none = (none, tt)
apply_more volume (x ∷ xs) change all none = (all.0, apply_more (changed volume x) xs change all.1 none)

-- a span with one change more keeps its limits
pub within_more : (span : Span) (change : Change) → KeepsLimits span → refusal_of (volume_seen span) change ≡ None
    → TakesMore span (block_bytes change) → KeepsLimits (span_with span (Sent change))
within_more span change is none takes =
    record {
      limit = is.limit;
      apply = apply_more (volume_of (medium_begun span)) span.since change is.apply
          (subst (λ (v : List Part). refusal_of v change ≡ None)
          (after_append (volume_or_empty (medium_begun span).stored) (medium_begun span).pending span.since) none);
      few = omega (arith, takes.few, length-append span.since (change ∷ []));
      short = omega (arith, takes.short, sum_by-append block_bytes span.since (change ∷ []));
      fits = omega (arith, takes.fits, frame_of change, sum_by-append frame_size span.since (change ∷ []));
    }

-- no span begins with a change
pub no_more_spans : (items : List Item) (change : Change) → spans_in (items ++ Sent change ∷ []) ≡ spans_in items
no_more_spans items change = omega (arith, sum_by-append begins items (Sent change ∷ []))

-- the counts, once a change is sent
pub counted_more : (items : List Item) (change : Change) (spans left bytes room size : ℕ)
    → IsCounted items spans left bytes room → refusal_of (volume_seen (span_of items)) change ≡ None
    → TakesMore (span_of items) (block_bytes change) → size ≡ frame_size change
    → IsCounted (items ++ Sent change ∷ []) spans (left - 1) (bytes - (size - 15)) (room - size)
counted_more items change spans left bytes room size counted none takes is =
    let span = span_of items in
    let next = span_next items (Sent change) in
    record {
      within = subst KeepsLimits (sym next) (within_more span change counted.within none takes);
      spans_are = counted.spans_are ∙ ap (λ (n : ℕ). n % 2 ^ 64) (sym (no_more_spans items change));
      left_is =
          omega (
            arith,
            counted.left_is,
            takes.few,
            ap (λ (s : Span). length s.since) next,
            ap (λ (s : Span). s.begin.left) next,
            length-append span.since (change ∷ []),
          );
      bytes_are =
          omega (
            arith,
            counted.bytes_are,
            takes.short,
            is,
            frame_of change,
            ap (λ (s : Span). sum_by block_bytes s.since) next,
            ap (λ (s : Span). s.begin.bytes) next,
            sum_by-append block_bytes span.since (change ∷ []),
          );
      room_is =
          omega (
            arith,
            counted.room_is,
            takes.fits,
            is,
            frame_of change,
            ap (λ (s : Span). sum_by frame_size s.since) next,
            ap (λ (s : Span). s.begin.room) next,
            sum_by-append frame_size span.since (change ∷ []),
          );
    }
