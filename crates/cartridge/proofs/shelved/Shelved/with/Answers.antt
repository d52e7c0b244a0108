use Rattle.std.proofs.Common.{sym, subst}
use Rattle.tape_disk.specs.TwoDisks.{AreHonest, EachOfTwo, TwoDisks}
use Rattle.cartridge.specs.Contents.{ShowsContents}
use Rattle.cartridge.specs.Notes.{noted_as}
use Rattle.cartridge.proofs.shelved.Shelved.with.Goals as goal

pub invariant_of-result : goal.invariant_of-result
invariant_of-result g c = λ known. (
  c.requires.contents,
  subst
      (λ (d : TwoDisks g.row.D.Denot). AreHonest g.D.Disk.state d → EachOfTwo g.D.Disk.state d
      (ShowsContents (noted_as c.args.which c.args.copied c.args.noted.notes) c.args.noted.notes.torn))
      (sym c.in_order-first.ensures) c.requires.shows,
)
