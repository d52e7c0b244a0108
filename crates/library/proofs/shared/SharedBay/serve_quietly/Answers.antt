use Rattle.library.proofs.ServedLemmas.{served_alone, served_then}
use Rattle.library.proofs.shared.SharedBay.serve_quietly.Goals as goal

pub returns-in-Some : goal.returns-in-Some
returns-in-Some g c = served_alone g.D.Disk.state _ _ _ _ _ _ _ c.in-Some.ensures

pub returns-in-None : goal.returns-in-None
returns-in-None g c =
    served_then g.D.Disk.state _ _ _ _ _ _ _ _ _ _ c.in-None.ensures c.serve_locked.ensures
