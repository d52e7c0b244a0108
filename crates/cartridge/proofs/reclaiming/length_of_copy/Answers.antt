use Rattle.std.proofs.Common.{length, ap, subst, arith}
use Rattle.gate_journal.specs.Side.{Heading, IsHeading}
use Rattle.cartridge.specs.Contents.{bodies_of}
use Rattle.cartridge.specs.Reclaiming.{copy_frames}
use Rattle.cartridge.specs.State.{OpenCartridge}
use Rattle.cartridge.proofs.ReclaimLemmas.{copy_head_length}
use Rattle.cartridge.proofs.reclaiming.length_of_copy.Goals as goal

pub returns : goal.returns
returns g c =
    let contents = c.args.cartridge.now.contents in
    let spelled : IsHeading contents.head.heading =
    subst (λ (v : OpenCartridge g.row.D.Denot). IsHeading v.contents.head.heading) c.cartridge.view_is
    c.cartridge.invariant.1.spelled.heading in
    let head = copy_head_length contents.head (bodies_of (copy_frames contents)) spelled in
    let noted = ap (λ (v : OpenCartridge g.row.D.Denot). length v.contents.head.heading.capacities)
    c.cartridge.view_is in
    let front = ap (λ (h : Heading). length h.capacities) c.cartridge.invariant.0.heading_is in
    let header = ap (λ (h : Heading). length h.capacities) c.header.ensures.value in
    omega (
      arith,
      head,
      noted,
      front,
      header,
      c.len-count.ensures,
      c.header.result.now.capacities.ok.0,
      c.from.ensures,
      c.requires.frames,
      c.requires.bytes,
    )
