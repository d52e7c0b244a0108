use Rattle.std.proofs.Common.{◌≡◌, ◌∙◌, ℕ, List, [], Option, ap, refl}
use Rattle.volume_core.specs.declared.changes.Change.{Change}
use Rattle.scsi_sense.specs.Replies.{good_with}
use Rattle.drive_commands.specs.State.{mounted}
use Rattle.drive_commands.specs.Inner.Appending.{restored}
use Rattle.drive_commands.proofs.AppendLemmas.{nothing_written, restored_is, some_bytes, some_written}
use Rattle.drive_commands.proofs.writes.write.Goals as goal

pub returns-then-is_empty-clause-carries : goal.returns-then-is_empty-clause-carries
returns-then-is_empty-clause-carries g c =
    let medium = c.args.medium.now in
    let good : c.good.result ≡ good_with [] = c.good.ensures ∙ ap good_with c.new.ensures in (
      record {
        made = [];
        carries = record {
          work =
              rw good
              (nothing_written c.args.buffered c.args.sent.now (g.M.Catalog.state medium) c.args.position.now
              c.is_empty.result c.is_empty.ensures c.if-is_empty.true);
          advances = g.met.M.Medium.advances_nowhere medium;
          stores = g.met.M.Medium.stores_nowhere medium;
        };
        counted = refl;
      },
      refl,
    )

pub returns-clause-carries : goal.returns-clause-carries
returns-clause-carries g c =
    let sent = c.args.sent.now in
    let position = c.args.position.now in
    let state = g.M.Catalog.state in
    let some = some_bytes sent c.is_empty.result c.is_empty.ensures c.if-is_empty.false in
    let appended = rw c.take.ensures.taken at c.append-appended.ensures.carries in
    let tallies = appended.0 in (
      record {
        made = tallies.made;
        carries = record {
          work =
              some_written c.args.buffered sent (mounted (state c.args.medium.now) position)
              c.append-appended.result.answer tallies.made
              (mounted (state c.append-appended.new.medium) c.append-appended.new.position) some
              tallies.carries.work;
          advances = tallies.carries.advances;
          stores = tallies.carries.stores;
        };
        counted = tallies.counted;
      },
      c.restore.ensures
          ∙ ap (λ (left : List ℕ). restored c.append-appended.result.returned left) c.take.ensures.left
          ∙ ap (λ (returned : Option Change). restored returned []) appended.1
          ∙ restored_is tallies.made position.part position.obj sent,
    )
