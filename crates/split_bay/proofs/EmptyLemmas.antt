-- A drive with no medium, to both halves.
use Rattle.std.proofs.Common.{◌≡◌, ◌++◌, List, true, false, Option, None, sym, ◌∙◌, ap}
use Rattle.std.specs.Prelude.{is_some}
use Rattle.volume_core.specs.Medium.{MediumState}
use Rattle.split_bay.specs.declared.items.Item.{Item}
use Rattle.split_bay.specs.Spans.{Span, no_span, span_of, spans_in}
use Rattle.split_bay.proofs.JoinedLemmas.{span_waits}

-- where nothing is in the drive, no medium is there
pub never_there : {A : Type 0} (span : Span) → span ≡ no_span → is_some span.begin.seen ≡ true → A
never_there span is there =
    let never : is_some no_span.begin.seen ≡ true = sym (ap (λ (s : Span). is_some s.begin.seen) is) ∙ there in
    absurd (cc)

-- where no span begins in what waits, a medium is there to both halves
pub there_to_both : {A : Type 0} (sent received waiting : List Item) → received ++ waiting ≡ sent
    → spans_in waiting ≡ 0 → is_some (span_of sent).begin.seen ≡ true → (span_of received).begin.seen ≡ None → A
there_to_both sent received waiting fifo changes there none =
    let same = ap (λ (s : Span). is_some s.begin.seen) (span_waits sent received waiting fifo changes) in
    let never : false ≡ true = sym (ap (λ (o : Option MediumState). is_some o) none) ∙ sym same ∙ there in
    absurd (cc)
