use Rattle.tape_disk.specs.TwoDisks.{MayLeave, TwoDisks, two_hold_now}
use Rattle.cartridge.proofs.ChoosingLemmas.{are_disks, was_honest}
use Rattle.cartridge.proofs.openings.Opening.of.Goals as goal

pub invariant_of-result : goal.invariant_of-result
invariant_of-result g c = λ known. (
  (c.shelved.invariant known).0,
  λ later images left.
      let state = g.D.Disk.state in
      let i = c.shelved.inside in
      let old : TwoDisks g.row.D.Denot = record { first = i.first; second = i.second } in
      let new : TwoDisks g.row.D.Denot = c.in-Ok.cartridge.disks in
      let h = was_honest state g.met.D.Disk.is_disk old new c.in-Ok.ensures.disks later in
      (c.shelved.invariant known).1 h images
      (two_hold_now state old new (MayLeave state old)
      (are_disks state g.met.D.Disk.is_disk old new c.in-Ok.ensures.disks later) (c.in-Ok.ensures.any_moment h) images
      left),
)

pub invariant_of-shelved : goal.invariant_of-shelved
invariant_of-shelved g c = λ known. (
  (c.shelved.invariant known).0,
  λ later images left.
      let state = g.D.Disk.state in
      let i = c.shelved.inside in
      let refused = c.in-Err.refused in
      let old : TwoDisks g.row.D.Denot = record { first = i.first; second = i.second } in
      let new : TwoDisks g.row.D.Denot = record { first = refused.first; second = refused.second } in
      let h = was_honest state g.met.D.Disk.is_disk old new c.in-Err.ensures.disks later in
      (c.shelved.invariant known).1 h images
      (two_hold_now state old new (MayLeave state old)
      (are_disks state g.met.D.Disk.is_disk old new c.in-Err.ensures.disks later) (c.in-Err.ensures.any_moment h) images
      left),
)
