use Rattle.library.proofs.ServedLemmas.{served_alone, served_both, served_then}
use Rattle.library.proofs.shared.SharedBay.serve_locked.Goals as goal

pub returns-in-Some : goal.returns-in-Some
returns-in-Some g c = served_alone g.D.Disk.state _ _ _ _ _ _ _ c.in-Some.ensures

pub returns-in-None : goal.returns-in-None
returns-in-None g c =
    served_then g.D.Disk.state _ _ _ _ _ _ _ _ _ _ c.in-None.ensures
    (served_both g.D.Disk.state _ _ _ _ _ _ _ _ _ c.execute_both.ensures)
