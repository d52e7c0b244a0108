use Rattle.std.proofs.Common.{Some, None}
use Rattle.bay_moves.proofs.LentLemmas.{each_answer, each_keeps}
use Rattle.bay_moves.proofs.ReturnLemmas.{at_args}
use Rattle.bay_moves.proofs.lent.move_lent.Goals as goal
use Rattle.bay_moves.proofs.lent.move_lent.Lts
use Rattle.bay_moves.proofs.lent.move_lent.Reads
use Rattle.bay_moves.proofs.lent.move_lent.Tie

pub returns : goal.returns
returns g c =
    let given = c.args in
    at_args (Lts.ps g.row.D g.D.laws g.D.Disk g.D.Disk-dict g.D.Destruct-dict) (Lts.r g.row.D g.D.laws g.D.Disk
    g.D.Disk-dict g.D.Destruct-dict) (Lts.xs g.row.D g.D.laws g.D.Disk g.D.Disk-dict g.D.Destruct-dict) c.lifetimes
    ((Tie.handed_clauses g.row.D g.D.laws g.D.Disk g.D.Disk-dict g.D.Destruct-dict).claim-own-asked)
    (given.alloc, (given.slots, (given.source, (given.destination, (given.from, (given.to, tt)))))) (
      given.alloc,
      (
        given.slots,
        (
          (Some c.in-Some.source),
          (
            (Some c.in-Some-destination-2.destination),
            (
              given.from,
              (given.to, tt),
            ),
          ),
        ),
      ),
    ) _
    ((Lts.m60 g.row.D g.D.laws g.D.Disk g.D.Disk-dict g.D.Destruct-dict (Tie.the-claims g.row.D g.D.laws g.D.Disk
    g.D.Disk-dict g.D.Destruct-dict) (Reads.Pre g.row.D g.D.laws g.D.Disk g.D.Disk-dict g.D.Destruct-dict)
    (Reads.Post g.row.D g.D.laws g.D.Disk g.D.Disk-dict g.D.Destruct-dict)
    (Tie.handed_clauses g.row.D g.D.laws g.D.Disk g.D.Disk-dict g.D.Destruct-dict) c.before
    (Lts.gave-After-between_drives g.row.D g.D.laws g.D.Disk g.D.Disk-dict g.D.Destruct-dict (Tie.the-claims g.row.D
    g.D.laws g.D.Disk g.D.Disk-dict g.D.Destruct-dict) (Reads.Pre g.row.D g.D.laws g.D.Disk g.D.Disk-dict
    g.D.Destruct-dict) (Reads.Post g.row.D g.D.laws g.D.Disk g.D.Disk-dict g.D.Destruct-dict)
    (Tie.handed_clauses g.row.D g.D.laws g.D.Disk g.D.Disk-dict g.D.Destruct-dict) c)).1)
    (λ i. (given.alloc, (given.slots, (c.in-Some.is i, (c.in-Some-destination-2.is i, (given.from, (given.to, tt)))))))
    (record {
      answer = each_answer g.D.Disk.state given.from given.to given.slots.now (Some c.in-Some.source.now) (Some
          c.in-Some-destination-2.destination.now)
          c.between_drives.result c.between_drives.new.slots (Some c.between_drives.new.source) (Some
          c.between_drives.new.destination) c.between_drives.ensures.moved;
      keeps = each_keeps g.D.Disk.state given.from given.to given.slots.now (Some c.in-Some.source.now) (Some
          c.in-Some-destination-2.destination.now)
          c.between_drives.result c.between_drives.new.slots (Some c.between_drives.new.source) (Some
          c.between_drives.new.destination) g.met.D.Disk.is_disk c.between_drives.ensures.moved;
      counted_out = c.between_drives.ensures.counted_out;
      counted_in = c.between_drives.ensures.counted_in;
    })

pub returns-in_default-destination-2 : goal.returns-in_default-destination-2
returns-in_default-destination-2 g c =
    let given = c.args in
    at_args (Lts.ps g.row.D g.D.laws g.D.Disk g.D.Disk-dict g.D.Destruct-dict) (Lts.r g.row.D g.D.laws g.D.Disk
    g.D.Disk-dict g.D.Destruct-dict) (Lts.xs g.row.D g.D.laws g.D.Disk g.D.Disk-dict g.D.Destruct-dict) c.lifetimes
    ((Tie.handed_clauses g.row.D g.D.laws g.D.Disk g.D.Disk-dict g.D.Destruct-dict).claim-own-asked)
    (given.alloc, (given.slots, (given.source, (given.destination, (given.from, (given.to, tt))))))
    (given.alloc, (given.slots, ((Some c.in-Some.source), (None, (given.from, (given.to, tt)))))) _
    ((Lts.m43 g.row.D g.D.laws g.D.Disk g.D.Disk-dict g.D.Destruct-dict (Tie.the-claims g.row.D g.D.laws g.D.Disk
    g.D.Disk-dict g.D.Destruct-dict) (Reads.Pre g.row.D g.D.laws g.D.Disk g.D.Disk-dict g.D.Destruct-dict)
    (Reads.Post g.row.D g.D.laws g.D.Disk g.D.Disk-dict g.D.Destruct-dict)
    (Tie.handed_clauses g.row.D g.D.laws g.D.Disk g.D.Disk-dict g.D.Destruct-dict) c.before
    (Lts.gave-After-out_of_drive g.row.D g.D.laws g.D.Disk g.D.Disk-dict g.D.Destruct-dict (Tie.the-claims g.row.D
    g.D.laws g.D.Disk g.D.Disk-dict g.D.Destruct-dict) (Reads.Pre g.row.D g.D.laws g.D.Disk g.D.Disk-dict
    g.D.Destruct-dict) (Reads.Post g.row.D g.D.laws g.D.Disk g.D.Disk-dict g.D.Destruct-dict)
    (Tie.handed_clauses g.row.D g.D.laws g.D.Disk g.D.Disk-dict g.D.Destruct-dict) c)).1)
    (λ i. (
      given.alloc,
      (
        given.slots,
        (
          c.in-Some.is i,
          (
            c.in_default-destination-2.is i,
            (
              given.from,
              (
                given.to,
                tt,
              ),
            ),
          ),
        ),
      ),
    ))
    (record {
      answer = each_answer g.D.Disk.state given.from given.to given.slots.now (Some c.in-Some.source.now) None
          c.out_of_drive.result c.out_of_drive.new.slots (Some c.out_of_drive.new.source) None
          c.out_of_drive.ensures.moved;
      keeps = each_keeps g.D.Disk.state given.from given.to given.slots.now (Some c.in-Some.source.now) None
          c.out_of_drive.result c.out_of_drive.new.slots (Some c.out_of_drive.new.source) None g.met.D.Disk.is_disk
          c.out_of_drive.ensures.moved;
      counted_out = c.out_of_drive.ensures.counted;
      counted_in = tt;
    })

pub returns-in_default : goal.returns-in_default
returns-in_default g c =
    let given = c.args in
    at_args (Lts.ps g.row.D g.D.laws g.D.Disk g.D.Disk-dict g.D.Destruct-dict) (Lts.r g.row.D g.D.laws g.D.Disk
    g.D.Disk-dict g.D.Destruct-dict) (Lts.xs g.row.D g.D.laws g.D.Disk g.D.Disk-dict g.D.Destruct-dict) c.lifetimes
    ((Tie.handed_clauses g.row.D g.D.laws g.D.Disk g.D.Disk-dict g.D.Destruct-dict).claim-own-asked)
    (given.alloc, (given.slots, (given.source, (given.destination, (given.from, (given.to, tt))))))
    (given.alloc, (given.slots, (None, ((Some c.in-Some-destination.destination), (given.from, (given.to, tt)))))) _
    ((Lts.m27 g.row.D g.D.laws g.D.Disk g.D.Disk-dict g.D.Destruct-dict (Tie.the-claims g.row.D g.D.laws g.D.Disk
    g.D.Disk-dict g.D.Destruct-dict) (Reads.Pre g.row.D g.D.laws g.D.Disk g.D.Disk-dict g.D.Destruct-dict)
    (Reads.Post g.row.D g.D.laws g.D.Disk g.D.Disk-dict g.D.Destruct-dict)
    (Tie.handed_clauses g.row.D g.D.laws g.D.Disk g.D.Disk-dict g.D.Destruct-dict) c.before
    (Lts.gave-After-into_drive g.row.D g.D.laws g.D.Disk g.D.Disk-dict g.D.Destruct-dict (Tie.the-claims g.row.D
    g.D.laws g.D.Disk g.D.Disk-dict g.D.Destruct-dict) (Reads.Pre g.row.D g.D.laws g.D.Disk g.D.Disk-dict
    g.D.Destruct-dict) (Reads.Post g.row.D g.D.laws g.D.Disk g.D.Disk-dict g.D.Destruct-dict)
    (Tie.handed_clauses g.row.D g.D.laws g.D.Disk g.D.Disk-dict g.D.Destruct-dict) c)).1)
    (λ i. (given.alloc, (given.slots, (c.in_default.is i, (c.in-Some-destination.is i, (given.from, (given.to, tt)))))))
    (record {
      answer = each_answer g.D.Disk.state given.from given.to given.slots.now None (Some
          c.in-Some-destination.destination.now)
          c.into_drive.result c.into_drive.new.slots None (Some c.into_drive.new.destination)
          c.into_drive.ensures.moved;
      keeps = each_keeps g.D.Disk.state given.from given.to given.slots.now None (Some
          c.in-Some-destination.destination.now)
          c.into_drive.result c.into_drive.new.slots None (Some c.into_drive.new.destination) g.met.D.Disk.is_disk
          c.into_drive.ensures.moved;
      counted_out = tt;
      counted_in = c.into_drive.ensures.counted;
    })

pub returns-in_default-destination : goal.returns-in_default-destination
returns-in_default-destination g c =
    let given = c.args in
    at_args (Lts.ps g.row.D g.D.laws g.D.Disk g.D.Disk-dict g.D.Destruct-dict) (Lts.r g.row.D g.D.laws g.D.Disk
    g.D.Disk-dict g.D.Destruct-dict) (Lts.xs g.row.D g.D.laws g.D.Disk g.D.Disk-dict g.D.Destruct-dict) c.lifetimes
    ((Tie.handed_clauses g.row.D g.D.laws g.D.Disk g.D.Disk-dict g.D.Destruct-dict).claim-own-asked)
    (given.alloc, (given.slots, (given.source, (given.destination, (given.from, (given.to, tt))))))
    (given.alloc, (given.slots, (None, (None, (given.from, (given.to, tt)))))) _
    ((Lts.m15 g.row.D g.D.laws g.D.Disk g.D.Disk-dict g.D.Destruct-dict (Tie.the-claims g.row.D g.D.laws g.D.Disk
    g.D.Disk-dict g.D.Destruct-dict) (Reads.Pre g.row.D g.D.laws g.D.Disk g.D.Disk-dict g.D.Destruct-dict)
    (Reads.Post g.row.D g.D.laws g.D.Disk g.D.Disk-dict g.D.Destruct-dict)
    (Tie.handed_clauses g.row.D g.D.laws g.D.Disk g.D.Disk-dict g.D.Destruct-dict) c.before
    (Lts.gave-After-between_slots g.row.D g.D.laws g.D.Disk g.D.Disk-dict g.D.Destruct-dict (Tie.the-claims g.row.D
    g.D.laws g.D.Disk g.D.Disk-dict g.D.Destruct-dict) (Reads.Pre g.row.D g.D.laws g.D.Disk g.D.Disk-dict
    g.D.Destruct-dict) (Reads.Post g.row.D g.D.laws g.D.Disk g.D.Disk-dict g.D.Destruct-dict)
    (Tie.handed_clauses g.row.D g.D.laws g.D.Disk g.D.Disk-dict g.D.Destruct-dict) c)).1)
    (λ i. (
      given.alloc,
      (
        given.slots,
        (
          c.in_default.is i,
          (
            c.in_default-destination.is i,
            (
              given.from,
              (
                given.to,
                tt,
              ),
            ),
          ),
        ),
      ),
    ))
    (record {
      answer = each_answer g.D.Disk.state given.from given.to given.slots.now None None
          c.between_slots.result c.between_slots.new.slots None None c.between_slots.ensures;
      keeps = each_keeps g.D.Disk.state given.from given.to given.slots.now None None
          c.between_slots.result c.between_slots.new.slots None None g.met.D.Disk.is_disk c.between_slots.ensures;
      counted_out = tt;
      counted_in = tt;
    })
