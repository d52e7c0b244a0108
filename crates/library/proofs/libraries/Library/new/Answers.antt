use Rattle.std.proofs.Common.{◌∙◌, All, List, Option, ap, subst, sym}
use Rattle.bay_moves.specs.Elements.{BayState}
use Rattle.library.specs.Counts.{AcceptedNone, places_filled, which_are_there}
use Rattle.library.proofs.libraries.Library.new.Goals as goal

pub open-tally-requires-clause-bays : goal.open-tally-requires-clause-bays
open-tally-requires-clause-bays g c = c.requires.bay_ledger.0

pub open-tally-requires-clause-hosts : goal.open-tally-requires-clause-hosts
open-tally-requires-clause-hosts g c = c.requires.host_ledger.0

pub of-row-requires : goal.of-row-requires
of-row-requires g c = c.requires.places

pub share_all-shared-requires-clause-fresh : goal.share_all-shared-requires-clause-fresh
share_all-shared-requires-clause-fresh g c =
    subst (λ (row : List (Option (BayState g.row.D.Denot))). All AcceptedNone row) (sym c.of-row.ensures)
    c.requires.fresh

pub share_all-shared-requires-clause-rings : goal.share_all-shared-requires-clause-rings
share_all-shared-requires-clause-rings g c =
    (c.requires.rings.0 ∙ ap which_are_there (sym c.of-row.ensures), c.requires.rings.1)

pub invariant_of-library : goal.invariant_of-library
invariant_of-library g c =
    let filled = c.share_all-shared.ensures.all.1 in
    (c.share_all-shared.ensures.all.0, filled ∙ ap places_filled c.of-row.ensures ∙ sym c.requires.bay_ledger.1)

pub returns-clause-drives : goal.returns-clause-drives
returns-clause-drives g c = c.share_all-shared.ensures.drives ∙ ap which_are_there c.of-row.ensures

pub returns-clause-operator : goal.returns-clause-operator
returns-clause-operator g c = c.of.ensures ∙ c.open-tally.ensures.moves.1
