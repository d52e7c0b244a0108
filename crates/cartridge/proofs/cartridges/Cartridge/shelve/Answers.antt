use Rattle.std.proofs.Common.{Option, sym, subst}
use Rattle.gate_journal.specs.declared.heads.Copied.{Copied}
use Rattle.tape_disk.specs.TwoDisks.{AreHonest, EachOfTwo}
use Rattle.cartridge.specs.Contents.{IsContents, ShowsContents}
use Rattle.cartridge.specs.Disks.{disks_by}
use Rattle.cartridge.specs.Notes.{noted_as}
use Rattle.cartridge.proofs.ShownLemmas.{shown_now}
use Rattle.cartridge.proofs.cartridges.Cartridge.shelve.Goals as goal

pub with-requires-clause-contents : goal.with-requires-clause-contents
with-requires-clause-contents g c =
    let i = c.self.inside in
    subst (λ (x : Option Copied). IsContents (noted_as i.which x i.noted.notes)) (sym c.copied-copied.ensures.value)
    c.self.invariant.1

pub with-requires-clause-shows : goal.with-requires-clause-shows
with-requires-clause-shows g c =
    let i = c.self.inside in
    subst
    (λ (x : g.row.D.Denot × Option Copied). AreHonest g.D.Disk.state (disks_by i.which x.0 i.spare)
    → EachOfTwo g.D.Disk.state (disks_by i.which x.0 i.spare)
    (ShowsContents (noted_as i.which x.1 i.noted.notes) i.noted.notes.torn))
    (λ k. (sym c.close.ensures k, sym c.copied-copied.ensures.value k))
    (λ h. shown_now g.D.Disk.state i.which i.journal i.spare i.index i.noted.notes c.self.invariant.0
    (c.self.invariant.2 h))
