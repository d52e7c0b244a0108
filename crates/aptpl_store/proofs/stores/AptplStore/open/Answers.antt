use Rattle.aptpl_store.specs.declared.recovering.Recovered.{Recovered}
use Rattle.aptpl_store.proofs.OpeningLemmas.{not_opened}
use Rattle.aptpl_store.proofs.UniqueLemmas.{refused_so}
use Rattle.aptpl_store.proofs.stores.AptplStore.open.Goals as goal

pub returns-in-Err-clause-refused : goal.returns-in-Err-clause-refused
returns-in-Err-clause-refused g c =
    rw c.from-error.ensures (
    not_opened (λ (d : Recovered). d.noted.notes) (λ (d : Recovered). d.last) c.in-Err.refused.error
    (g.D.Disk.state c.args.disk) (g.D.Disk.state c.in-Err.refused.disk) c.in-Err.ensures.refused
    )

pub returns-in-Err-clause-recovers : goal.returns-in-Err-clause-recovers
returns-in-Err-clause-recovers g c honest =
    rw c.from-error.ensures (
    refused_so _ (g.D.Disk.state c.args.disk) (g.D.Disk.state c.in-Err.refused.disk) honest
    (not_opened (λ (d : Recovered). d.noted.notes) (λ (d : Recovered). d.last) c.in-Err.refused.error
    (g.D.Disk.state c.args.disk) (g.D.Disk.state c.in-Err.refused.disk) c.in-Err.ensures.refused)
    )
