use Rattle.std.proofs.Common.{◌≡◌, [], ◌∷◌, ap, sym, subst, ◌∙◌}
use Rattle.drive_commands.specs.declared.bays.Bay.{Bay}
use Rattle.drive_commands.specs.State.{bay_of}
use Rattle.tape_buffer.specs.Aways.{loose_in}
use Rattle.tape_buffer.specs.Detaching.{passed}
use Rattle.tape_buffer.specs.State.{BufferState}
use Rattle.bay_moves.specs.Elements.{BayState}
use Rattle.split_bay.specs.declared.items.Item.TheVariants.{Sent}
use Rattle.split_bay.specs.Fronts.{IsFrontOf, loose_in_bay, span_since}
use Rattle.split_bay.specs.Rings.{SendingState}
use Rattle.split_bay.specs.Spans.{span_of, span_next}
use Rattle.split_bay.proofs.FrontLemmas.{stands_passed}
use Rattle.split_bay.proofs.fronts.pass_on.Goals as goal

pub returns-in-Some-clause-stands : goal.returns-in-Some-clause-stands
returns-in-Some-clause-stands g c =
    let span = span_of c.args.sending.now.sent in
    let bay = c.args.drive.now.bay in
    let change = c.in-Some.change in
    let loose : change ∷ [] ≡ loose_in_bay bay =
    ap loose_in (sym c.in-Some.is) ∙ c.take_loose-loose.ensures.loose
    ∙ ap (λ (b : Bay (BufferState g.row.D.Denot)). loose_in_bay b) c.lift-bay.ensures.lifted in
    let next = ap (λ (s : SendingState). span_of s.sent) c.send.ensures
    ∙ span_next c.args.sending.now.sent (Sent change) ∙ ap (span_since span) loose in
    subst (λ (b : Bay (BufferState g.row.D.Denot)). IsFrontOf b (span_of c.send.new.self.sent))
    (sym (ap (λ (d : BayState g.row.D.Denot). d.bay) c.lower.ensures ∙ c.take_loose-loose.ensures.left
    ∙ ap (λ (b : Bay (BufferState g.row.D.Denot)). bay_of passed b) c.lift-bay.ensures.lifted))
    (stands_passed bay span (span_of c.send.new.self.sent) c.requires next)
