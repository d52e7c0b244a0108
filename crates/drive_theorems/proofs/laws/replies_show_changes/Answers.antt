use Rattle.drive_theorems.proofs.ShownLemmas.{replies_show}
use Rattle.drive_theorems.proofs.laws.replies_show_changes.Goals as goal

pub returns : goal.returns
returns g c = replies_show g.M.Catalog.state g.M.Medium.below g.K.Keeper.kept g.K.Keeper.below
