use Rattle.std.proofs.Common.{◌≡◌, ◌∙◌, [], List, ℕ, ap, sym, subst}
use Rattle.cartridge_sides.specs.declared.which.Which.TheVariants.{First}
use Rattle.cartridge.specs.Contents.{Contents, GivesContents, contents_from, heading_with, plain_head}
use Rattle.check_lines.specs.Disks.{both}
use Rattle.vtl_files.specs.Creating.{HasNewPair, new_bytes, new_contents}
use Rattle.vtl_files.proofs.new_cartridges.make_pair.Goals as goal

pub returns-in-Ok-create-clause-ok : goal.returns-in-Ok-create-clause-ok
returns-in-Ok-create-clause-ok g c =
    let made = rw c.in-Some.is at c.in_ok-name.ensures in
    let opened = rw c.in-Ok.is at c.open_second-second_name.ensures.answer in
    let entry = c.args.entry in
    let shelved = c.in-Ok-create.shelved in
    let new = c.in-Ok-create.ensures in
    let contents : shelved.contents ≡ new_contents entry =
    new.ok.2
    ∙ ap (λ (all : List ℕ). contents_from First (plain_head (heading_with entry.barcode all)) [])
    c.slice_of.ensures.value in
    let pair : HasNewPair g.D.Disk.state entry (both c.in-Some.first c.in-Ok.second) shelved.disks = record {
      rests = new.disks.1;
      none_failed = new.ok.3;
      bytes = λ honest.
          new.bytes honest
          ∙ ap (λ (all : List ℕ). new_bytes (heading_with entry.barcode all)) c.slice_of.ensures.value;
      sure = λ honest images left.
          subst (λ (found : Contents). GivesContents found images) contents (new.sure honest images left);
    } in (
      c.requires,
      c.in-Some.first,
      c.in-Ok.second,
      made.1,
      opened,
      (
        both c.into_disks-first.result.0 c.into_disks-first.result.1,
        rw made.0 at c.leave.ensures,
        rw c.open_second-second_name.ensures.used at c.close_second.ensures,
        subst (λ disks. HasNewPair g.D.Disk.state entry (both c.in-Some.first c.in-Ok.second) disks)
            (sym c.into_disks-first.ensures) pair,
      ),
    )
