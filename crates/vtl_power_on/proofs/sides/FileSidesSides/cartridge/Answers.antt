use Rattle.vtl_power_on.proofs.sides.FileSidesSides.cartridge.Goals as goal

-- the disks are those that the openings gave, and no call of them was made
pub returns-in-Ok-clause-ok : goal.returns-in-Ok-clause-ok
returns-in-Ok-clause-ok g c =
    let opened = c.in-Ok.ensures.ok in (
      c.in-Ok.first.1,
      c.in-Ok.second.1,
      opened.1,
      opened.2.1,
      record {
        shelved = c.of.result;
        closed = c.of-in-Ok.ensures;
        unread = c.of.ensures.unknown;
        same = c.of.ensures.disks;
      },
    )
