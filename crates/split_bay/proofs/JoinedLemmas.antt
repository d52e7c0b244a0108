-- Both ends of a ring.
use Rattle.std.proofs.Common.{◌≡◌, ◌≤◌, ◌+◌, ◌++◌, ◌%◌, ◌^◌, ℕ, List, [], ◌∷◌, length, map, sum_by, refl, sym, ◌∙◌, ap, subst, arith, length-append}
use Rattle.std.proofs.lemmas.List.{append-nil}
use Rattle.std.proofs.lemmas.List.Sums.{sum_by-append, sum_by-cons}
use Rattle.volume_core.specs.declared.changes.Change.{Change}
use Rattle.volume_core.specs.Medium.{block_bytes, frame_size}
use Rattle.split_bay.specs.declared.items.Item.{Item}
use Rattle.split_bay.specs.declared.items.Item.TheVariants.{Begins, Sent}
use Rattle.split_bay.specs.declared.noted.NotedBeginning.{NotedBeginning}
use Rattle.split_bay.specs.Beginnings.{Beginning}
use Rattle.split_bay.specs.Rings.{IsCounted}
use Rattle.split_bay.specs.Spans.{KeepsLimits, NoChangeFirst, Span, begins, new_span, span_of, span_with, spans_in, span_more, span_next}

one_at_most : (item : Item) → begins item ≤ 1
one_at_most (Sent change) = omega arith
one_at_most (Begins noted) = omega arith

-- as many items begin as many spans at most
few_spans : (items : List Item) → spans_in items ≤ length items
few_spans [] = omega arith
few_spans (item ∷ items) = omega (arith, sum_by-cons begins item items, one_at_most item, few_spans items)

-- no span begins in what waits, where as many began in what was sent and in what was received
pub no_span_waits : (sent sent' received received' waiting : List Item) → sent' ≡ sent → received' ≡ received
    → received' ++ waiting ≡ sent' → length waiting ≤ 256
    → spans_in sent % 18446744073709551616 ≡ spans_in received % 18446744073709551616 → spans_in waiting ≡ 0
no_span_waits sent sent' received received' waiting same same' fifo few spans =
    omega (
      arith,
      spans,
      ap spans_in same,
      ap spans_in same',
      ap spans_in fifo,
      sum_by-append begins received' waiting,
      few_spans waiting,
      few,
    )

-- what has neither a span nor a change in front is empty
pub nothing_waits : (waiting : List Item) → spans_in waiting ≡ 0 → NoChangeFirst waiting → waiting ≡ []
nothing_waits [] none first = refl
nothing_waits (Sent change ∷ items) none first = absurd first
nothing_waits (Begins noted ∷ items) none first =
    absurd (omega (arith, none, sum_by-cons begins (Begins noted) items))

-- and so in what is left of it
pub spans_behind : (waiting first rest : List Item) → waiting ≡ first ++ rest → spans_in waiting ≡ 0
    → spans_in rest ≡ 0
spans_behind waiting first rest is none =
    omega (arith, none, ap spans_in is, sum_by-append begins first rest)

-- where no span begins, all items are changes
pub changes_in : (items : List Item) → spans_in items ≡ 0 → (changes : List Change) × (items ≡ map Sent changes)
changes_in [] none = ([], refl)
changes_in (Sent change ∷ items) none =
    let rest = changes_in items (omega (arith, none, sum_by-cons begins (Sent change) items)) in
    (change ∷ rest.0, ap (λ (l : List Item). Sent change ∷ l) rest.1)
changes_in (Begins noted ∷ items) none = absurd (omega (arith, none, sum_by-cons begins (Begins noted) items))

-- and the span goes on with them
pub span_waits : (sent received waiting : List Item) → received ++ waiting ≡ sent → (none : spans_in waiting ≡ 0)
    → span_of sent
    ≡ record { begin = (span_of received).begin; since = (span_of received).since ++ (changes_in waiting none).0 }
span_waits sent received waiting fifo none =
    let changes = changes_in waiting none in
    ap span_of (sym fifo ∙ ap (λ (l : List Item). received ++ l) changes.1) ∙ span_more received changes.0

empty_of : (changes : List Change) → length changes ≤ 0 → changes ≡ []
empty_of [] none = refl
empty_of (change ∷ changes) none = absurd (omega (arith, none))

-- where nothing may be sent, nothing waits
pub level_none : (sent received waiting : List Item) → received ++ waiting ≡ sent → spans_in waiting ≡ 0
    → KeepsLimits (span_of sent) → (span_of sent).begin.left ≡ 0 → received ≡ sent
level_none sent received waiting fifo none within left =
    let changes = changes_in waiting none in
    let nothing = empty_of changes.0
    (omega (
      arith,
      within.few,
      left,
      ap (λ (s : Span). length s.since) (span_waits sent received waiting fifo none),
      length-append (span_of received).since changes.0,
    )) in
    sym (append-nil received)
    ∙ ap (λ (l : List Item). received ++ l) (sym (changes.1 ∙ ap (map Sent) nothing)) ∙ fifo

-- a span begins
pub begun_so : (items now : List Item) (noted : NotedBeginning) (begin : Beginning)
    → now ≡ items ++ Begins noted ∷ [] → noted.begin ≡ begin → span_of now ≡ new_span begin
begun_so items now noted begin is begins_so =
    ap span_of is ∙ span_next items (Begins noted) ∙ ap new_span begins_so

-- a span that begins is within its limits
pub begun_within : (items : List Item) (noted : NotedBeginning) → noted.begin.left ≤ 256
    → KeepsLimits (span_of (items ++ Begins noted ∷ []))
begun_within items noted few =
    subst KeepsLimits (sym (span_next items (Begins noted)))
    (record {
      limit = few;
      apply = tt;
      few = omega arith;
      short = omega arith;
      fits = omega arith;
    })

-- the counts, once a span begins
pub counted_begun : (items now : List Item) (noted : NotedBeginning) (spans left bytes room : ℕ)
    → now ≡ items ++ Begins noted ∷ [] → spans ≡ spans_in items % 2 ^ 64 → left ≤ 256 → noted.begin.left ≡ left
    → noted.begin.bytes ≡ bytes → noted.begin.room ≡ room
    → IsCounted now ((spans + 1) % 18446744073709551616) left bytes room
counted_begun items now noted spans left bytes room is counted few left_is bytes_are room_is =
    subst (λ (l : List Item). IsCounted l ((spans + 1) % 18446744073709551616) left bytes room) (sym is)
    (record {
      within = begun_within items noted (omega (arith, few, left_is));
      spans_are = omega (arith, counted, sum_by-append begins items (Begins noted ∷ []));
      left_is = omega (arith, left_is, ap (λ (s : Span). length s.since) next, ap (λ (s : Span). s.begin.left) next);
      bytes_are =
          omega (
            arith,
            bytes_are,
            ap (λ (s : Span). sum_by block_bytes s.since) next,
            ap (λ (s : Span). s.begin.bytes) next,
          );
      room_is =
          omega (
            arith,
            room_is,
            ap (λ (s : Span). sum_by frame_size s.since) next,
            ap (λ (s : Span). s.begin.room) next,
          );
    })
  where
    next : span_of (items ++ Begins noted ∷ []) ≡ span_with (span_of items) (Begins noted)
    next = span_next items (Begins noted)
