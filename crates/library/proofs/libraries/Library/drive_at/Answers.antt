use Rattle.std.proofs.Common.{◌∙◌, Bool, List, ap, sym}
use Rattle.library.specs.Counts.{has_drive}
use Rattle.library.proofs.RowLemmas.{nowhere_there}
use Rattle.library.proofs.libraries.Library.drive_at.Goals as goal

pub returns-in-None-clause-there : goal.returns-in-None-clause-there
returns-in-None-clause-there g c =
    sym (ap (λ (row : List Bool). has_drive row c.args.address) (sym c.self.view_is)
    ∙ nowhere_there c.self.inside.bays.items c.args.address c.self.invariant.0 c.in-None.ensures.none)
