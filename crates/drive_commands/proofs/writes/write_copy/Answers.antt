use Rattle.std.proofs.Common.{◌≡◌, ◌≤◌, ◌∙◌, [], length, None, Some, Err, ap, refl, rules, sym}
use Rattle.std.proofs.lemmas.Result.{err_from_is_err_and}
use Rattle.scsi_sense.specs.Replies.{check_with}
use Rattle.scsi_sense.specs.Senses.{volume_overflow}
use Rattle.volume_core.specs.Volume.{refusal_of}
use Rattle.volume_core.specs.Medium.{volume_of}
use Rattle.drive_commands.specs.Write.{put_at}
use Rattle.drive_commands.proofs.AppendLemmas.{write_lacks_memory, write_lacks_room, write_lacks_side}
use Rattle.drive_commands.proofs.writes.write_copy.Goals as goal

pub returns-in-Some-clause-carries : goal.returns-in-Some-clause-carries
returns-in-Some-clause-carries g c =
    let medium = c.args.medium.now in
    let position = c.args.position.now in
    let sent = c.args.sent.now in
    let some : 1 ≤ length sent = search rules in
    let refused : refusal_of (volume_of (g.M.Catalog.state medium)) (put_at position sent) ≡ Some c.in-Some.field-0 =
    sym (c.refusal_for.ensures (put_at position sent) refl refl
    (sym (c.block-demand.ensures position.part position.obj sent refl))) ∙ c.in-Some.is in
    let reply : c.check.result ≡ check_with (volume_overflow (Some (length sent))) [] =
    c.check.ensures ∙ (λ i. check_with (c.volume_overflow-sense.ensures i) (c.new-in-Some.ensures i)) in
    rw reply
    (record {
      made = [];
      carries = record {
        work =
            write_lacks_room c.args.buffered sent (g.M.Catalog.state medium) position c.in-Some.field-0 some
            c.requires.short c.requires.ready refused;
        advances = g.met.M.Medium.advances_nowhere medium;
        stores = g.met.M.Medium.stores_nowhere medium;
      };
      counted = refl;
    })

pub returns-then-not-has_room_for-clause-carries :
    goal.returns-then-not-has_room_for-clause-carries
returns-then-not-has_room_for-clause-carries g c =
    let medium = c.args.medium.now in
    let position = c.args.position.now in
    let sent = c.args.sent.now in
    let some : 1 ≤ length sent = search rules in
    let none : refusal_of (volume_of (g.M.Catalog.state medium)) (put_at position sent) ≡ None =
    sym (c.refusal_for.ensures (put_at position sent) refl refl
    (sym (c.block-demand.ensures position.part position.obj sent refl))) ∙ c.in-None.is in
    record {
      made = [];
      carries = record {
        work =
            write_lacks_side c.args.buffered sent (g.M.Catalog.state medium) position
            c.has_room_for.result some none c.has_room_for.ensures.1 c.if-not-has_room_for.true;
        advances = g.met.M.Medium.advances_nowhere medium;
        stores = g.met.M.Medium.stores_nowhere medium;
      };
      counted = refl;
    }

pub returns-in_err-copy-clause-carries : goal.returns-in_err-copy-clause-carries
returns-in_err-copy-clause-carries g c =
    let medium = c.args.medium.now in
    let position = c.args.position.now in
    let sent = c.args.sent.now in
    let some : 1 ≤ length sent = search rules in
    let none : refusal_of (volume_of (g.M.Catalog.state medium)) (put_at position sent) ≡ None =
    sym (c.refusal_for.ensures (put_at position sent) refl refl
    (sym (c.block-demand.ensures position.part position.obj sent refl))) ∙ c.in-None.is in
    let exit = err_from_is_err_and c.from_residual.result c.from_residual.ensures.1 in
    rw (exit.1 ∙ ap Err exit.2)
    (record {
      made = [];
      carries = record {
        work =
            write_lacks_memory c.args.buffered sent (g.M.Catalog.state medium) position
            c.has_room_for.result some c.requires.ready none c.has_room_for.ensures.0 c.if-not-has_room_for.false;
        advances = g.met.M.Medium.advances_nowhere medium;
        stores = g.met.M.Medium.stores_nowhere medium;
      };
      counted = refl;
    })

pub returns-clause-carries : goal.returns-clause-carries
returns-clause-carries g c = let written = rw c.in_ok-copy.ensures.copy at c.write.ensures.carries in written.0
