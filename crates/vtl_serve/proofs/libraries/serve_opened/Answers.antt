use Rattle.std.proofs.Common.{List, ap, inr, refl, sym, ◌∙◌}
use Rattle.vtl_serve.specs.Desks.{DeskState}
use Rattle.vtl_serve.specs.Libraries.{seats_of}
use Rattle.vtl_serve.specs.OneHost.{OneHostState}
use Rattle.vtl_serve.proofs.SharedLemmas.{seats_back}
use Rattle.vtl_serve.proofs.libraries.serve_opened.Goals as goal

pub returns-clause-serves : goal.returns-clause-serves
returns-clause-serves g c =
    let met = c.in-Err.ensures.met in
    let back = met.1.1.1 in
    inr (
      refl,
      c.seats_in-in-Err.ensures ∙ ap (λ (l : List OneHostState). seats_of l) back.0
          ∙ ap (λ (l : List OneHostState). seats_of l) c.hosts_of-hosts.ensures
          ∙ seats_back c.args.library.now c.args.seated.seats.items,
      c.into_operator-in-Err.ensures ∙ ap (λ (d : DeskState). d.moved) (c.desk-2-1.given.1 (sym met.0.3))
          ∙ ap (λ (d : DeskState). d.moved) back.1 ∙ ap (λ (d : DeskState). d.moved) c.new-desk.ensures,
      ap g.I.Read.remaining (c.reader-1.given.1 (sym met.0.4) ∙ back.2),
      ap g.W.Write.contents (c.writer-1.given.1 (sym met.0.5) ∙ back.3),
    )
