-- What goes through a drive's ring, and what the hosts' half may send.
use Rattle.std.specs.Prelude.{◌≡◌, ◌≤◌, ◌+◌, ◌++◌, ℕ, List, [], ◌∷◌, length, map, sum_by, false, not, ◌&&◌, Option, None, Some, refl}
use Rattle.std.proofs.Common.{sym, ◌∙◌, append_assoc}
use Rattle.std.proofs.lemmas.List.{append-nil}
use Rattle.vtl_base.specs.declared.layout.TheConstants.{FRAMED_HEAD}
use Rattle.volume_core.specs.declared.changes.Change.{Change}
use Rattle.volume_core.specs.Volume.{AllApply, Part, after, changed}
use Rattle.volume_core.specs.Medium.{MediumState, block_bytes, frame_size, volume_of}
use Rattle.vtl_base.specs.declared.limits.TheConstants.{RING_RECORDS}
use Rattle.split_bay.specs.declared.items.Item.{Item}
use Rattle.split_bay.specs.declared.items.Item.TheVariants.{Begins, Sent}
use Rattle.split_bay.specs.Beginnings.{Beginning, nothing_begins}

-- a span: how it began, and the changes that were sent since (own)
pub record Span : Type 0 where
  pub begin : Beginning
  pub since : List Change

-- before the first span nothing is in the drive, and nothing may be sent (own)
abbrev pub no_span : Span
no_span = record { begin = nothing_begins; since = [] }

-- a span with this beginning (own)
abbrev pub new_span : Beginning → Span
new_span begin = record { begin = begin; since = [] }

-- a span with one item more: a change, or the beginning of the next span (own)
abbrev pub span_with : Span → Item → Span
span_with span (Sent change) = record { begin = span.begin; since = span.since ++ change ∷ [] }
span_with span (Begins noted) = record { begin = noted.begin; since = [] }

-- a span with these items more, in order (own)
abbrev pub span_after : Span → List Item → Span
span_after span [] = span
span_after span (item ∷ items) = span_after (span_with span item) items

-- the span in which one stands who sent or received just these items (own)
abbrev pub span_of : List Item → Span
span_of items = span_after no_span items

-- a medium that is not there is like one that is parked and gives no volume (own)
abbrev pub medium_or_none : Option MediumState → MediumState
medium_or_none None = record {
  awake = false;
  stored = None;
  pending = [];
  torn = [];
  failed = false;
  room = None;
  unread = false;
}
medium_or_none (Some medium) = medium

-- the medium as it was when the span began (own)
abbrev pub medium_begun : Span → MediumState
medium_begun span = medium_or_none span.begin.seen

-- the medium that hosts see: what was sent since is pending, behind what was; one that is awake was opened (own)
abbrev pub medium_seen : Span → MediumState
medium_seen span = record (medium_begun span) {
  pending = (medium_begun span).pending ++ span.since;
  unread = not (medium_begun span).awake && (medium_begun span).unread;
}

-- the volume that hosts see (own)
abbrev pub volume_seen : Span → List Part
volume_seen span = volume_of (medium_seen span)

-- A span keeps its limits: so many records, bytes of blocks, and room of the side, each record a frame of its own; and
-- each change applies behind those before it (own).
pub record KeepsLimits (span : Span) : Type 0 where
  pub limit : span.begin.left ≤ RING_RECORDS
  pub apply : AllApply (volume_of (medium_begun span)) span.since
  pub few : length span.since ≤ span.begin.left
  pub short : sum_by block_bytes span.since ≤ span.begin.bytes
  pub fits : sum_by frame_size span.since ≤ span.begin.room

-- one change more is within its limits, whose block has so many bytes, 0 for a change with no block (own)
pub record TakesMore (span : Span) (bytes : ℕ) : Type 0 where
  pub few : length span.since + 1 ≤ span.begin.left
  pub short : sum_by block_bytes span.since + bytes ≤ span.begin.bytes
  pub fits : sum_by frame_size span.since + (FRAMED_HEAD + bytes) ≤ span.begin.room

-- with an item the span keeps its limits (own)
abbrev pub MayFollow : List Item → Item → Type 0
MayFollow before item = KeepsLimits (span_of (before ++ item ∷ []))

-- an item begins a span (own)
abbrev pub begins : Item → ℕ
begins (Sent change) = 0
begins (Begins noted) = 1

-- how many spans began (own)
abbrev pub spans_in : List Item → ℕ
spans_in items = sum_by begins items

-- no change stands in front: there is nothing, or a span begins (own)
abbrev pub NoChangeFirst : List Item → Type 0
NoChangeFirst [] = Unit {0}
NoChangeFirst (Begins noted ∷ items) = Unit {0}
NoChangeFirst (Sent change ∷ items) = ⊥

-- a change stands in front (own)
abbrev pub IsChangeFirst : List Item → Type 0
IsChangeFirst [] = ⊥
IsChangeFirst (Begins noted ∷ items) = ⊥
IsChangeFirst (Sent change ∷ items) = Unit {0}

-- items more, and more of them
pub span_append : (span : Span) (xs ys : List Item)
    → span_after span (xs ++ ys) ≡ span_after (span_after span xs) ys
span_append span [] ys = refl
span_append span (x ∷ xs) ys = span_append (span_with span x) xs ys

-- one item more
pub span_next : (items : List Item) (item : Item) → span_of (items ++ item ∷ []) ≡ span_with (span_of items) item
span_next items item = span_append no_span items (item ∷ [])

-- changes go on with a span
pub span_changes : (span : Span) (changes : List Change)
    → span_after span (map Sent changes) ≡ record { begin = span.begin; since = span.since ++ changes }
span_changes span [] = λ i. record { begin = span.begin; since = sym (append-nil span.since) i }
span_changes span (c ∷ cs) =
    span_changes (span_with span (Sent c)) cs
    ∙ (λ i. record { begin = span.begin; since = append_assoc span.since (c ∷ []) cs i })

-- some changes more
pub span_more : (items : List Item) (changes : List Change)
    → span_of (items ++ map Sent changes)
    ≡ record { begin = (span_of items).begin; since = (span_of items).since ++ changes }
span_more items changes = span_append no_span items (map Sent changes) ∙ span_changes (span_of items) changes

-- of changes that all apply the last ones apply to what the first ones make
pub apply_rest : (volume : List Part) (xs ys : List Change) → AllApply volume (xs ++ ys)
    → AllApply (after volume xs) ys
apply_rest volume [] ys all = all
apply_rest volume (x ∷ xs) ys all = apply_rest (changed volume x) xs ys all.1
