use Rattle.std.proofs.Common.{None, inl, true, sym, subst, ap, ◌∙◌}
use Rattle.tape_disk.specs.TwoDisks.{EachOfTwo}
use Rattle.gate_journal.specs.Side.{Front, Heading, IsHeading, heading_of}
use Rattle.cartridge_sides.specs.declared.which.Which.TheVariants.{First}
use Rattle.cartridge.specs.Contents.{GivesContents, IsContents}
use Rattle.cartridge.specs.Notes.{Notes, noted_as}
use Rattle.cartridge.specs.State.{ClosedCartridge}
use Rattle.cartridge.proofs.CreatedLemmas.{created_each, created_is}
use Rattle.cartridge.proofs.cartridges.Cartridge.create.Goals as goal

pub with-requires-clause-contents : goal.with-requires-clause-contents
with-requires-clause-contents g c =
    subst (λ (n : Notes). IsContents (noted_as First None n)) (sym c.new-noted.ensures)
    (created_is (heading_of c.in-Ok.header) (ap (λ (x : Heading). x.kind) c.in-Ok.ensures.heading)
    (subst (λ (f : Front). IsHeading f.head.heading) c.in-Ok-create.ensures.ok.0 c.header.ensures.valid))

pub with-requires-clause-shows : goal.with-requires-clause-shows
with-requires-clause-shows g c = λ h images left.
    let journal = c.in-Ok-create.journal in
    let disk = subst (λ (d : g.row.D.Denot). (g.D.Disk.state d).honest) c.close.ensures h.0 in
    inl (subst (λ (n : Notes). GivesContents (noted_as First None n) images) (sym c.new-noted.ensures)
    (created_each g.D.Disk.state (heading_of c.in-Ok.header) journal.disk c.args.second
    (ap (λ (x : Heading). x.kind) c.in-Ok.ensures.heading) journal.front journal.bodies c.in-Ok-create.ensures.ok.0
    c.in-Ok-create.ensures.ok.1 (c.known.ensures.sure disk c.in-Ok-create.ensures.ok.3) images
    (subst (λ (d : g.row.D.Denot). (g.D.Disk.state d).may_leave images.0) c.close.ensures left.0, left.1)))

pub returns-in-Ok-create-clause-sure : goal.returns-in-Ok-create-clause-sure
returns-in-Ok-create-clause-sure g c = λ h.
    let journal = c.in-Ok-create.journal in
    let state = g.D.Disk.state in
    subst (λ (s : ClosedCartridge g.row.D.Denot). EachOfTwo state s.disks (GivesContents s.contents))
    (sym (c.with.ensures ∙ (λ i. record {
      disks = record { first = c.close.ensures i; second = c.args.second };
      known = true;
      contents = noted_as First None (c.new-noted.ensures i);
      torn = (c.new-noted.ensures i).torn;
    })))
    (created_each state (heading_of c.in-Ok.header) journal.disk c.args.second
    (ap (λ (x : Heading). x.kind) c.in-Ok.ensures.heading) journal.front journal.bodies c.in-Ok-create.ensures.ok.0
    c.in-Ok-create.ensures.ok.1
    (c.known.ensures.sure (c.in-Ok-create.ensures.disk.stays_honest h) c.in-Ok-create.ensures.ok.3))
