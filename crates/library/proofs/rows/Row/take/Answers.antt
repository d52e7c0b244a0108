use Rattle.std.proofs.Common.{◌<◌, List, length, get_or, Option, None, ap, ◌∙◌, arith}
use Rattle.std.proofs.lemmas.List.{get_or_default}
use Rattle.bay_moves.specs.Elements.{BayState}
use Rattle.library.proofs.rows.Row.take.Goals as goal

pub returns-clause-out : goal.returns-clause-out
returns-clause-out g c =
    let within : c.args.place < length c.self.inside.places.items = omega (arith, c.requires, c.self.invariant) in
    c.take.ensures.value ∙ c.index_mut.ensures.value
    ∙ get_or_default c.self.inside.places.items c.args.place c.index_mut.result.now None within
    ∙ ap (λ (row : List (Option (BayState g.row.D.Denot))). get_or row c.args.place None) c.self.view_is
