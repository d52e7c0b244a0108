use Rattle.std.proofs.Common.{◌≡◌, ◌∙◌, List, ℕ, inl, is_some, refl, subst}
use Rattle.vtl_config.specs.FileNames.{second_name}
use Rattle.check_lines.specs.Disks.{both, disks_checked}
use Rattle.vtl_files.specs.Checks.{IsSecondRead}
use Rattle.vtl_files.proofs.side_checks.lines_of.Goals as goal
use Rattle.vtl_files.proofs.side_checks.lines_of.Goals.{then-blocks, else-blocks}

pub returns : goal.returns
returns g c =
    let named : c.as_str.result.now ≡ second_name c.args.name.now = c.as_str.ensures.value ∙ c.in-Ok.ensures in
    let again : c.as_str-2.result.now ≡ second_name c.args.name.now = c.as_str-2.ensures.value ∙ c.in-Ok.ensures in
    let asked : is_some c.if-blocks.reports ≡ c.args.blocks =
    elim c.if-blocks.branch [
      | then-blocks w ↦ rw (w.reports-is, w.if-blocks.true) refl
      | else-blocks w ↦ rw (w.reports-is, w.if-blocks.false) refl
    ] in
    inl (record {
      disks = both c.in-Ok-open_to_read.first c.in-Some.second;
      first = rw c.in-Ok-open_to_read.is at c.open_to_read.ensures;
      second = subst (λ (name : List ℕ). IsSecondRead g.D.Disk.state g.F.ReadFiles.opens_to_read name c.in-Some.second)
          named c.in-Some.ensures;
      last = disks_checked c.check_side-lines.result;
      closed = (c.close-2.ensures, rw again at c.close-3.ensures);
      looks = record {
        keeps = c.check_side-lines.ensures.disks;
        none_failed = c.check_side-lines.ensures.ok;
        text = c.check_side-lines.ensures.text;
        read = rw asked at c.check_side-lines.ensures.read;
        cause = c.check_side-lines.ensures.cause;
        any_moment = c.check_side-lines.ensures.any_moment;
      };
    })
