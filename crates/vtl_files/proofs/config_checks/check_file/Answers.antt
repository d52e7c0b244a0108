use Rattle.std.proofs.Common.{◌∙◌}
use Rattle.vtl_files.proofs.ConfigCheckLemmas.{part_of_report, whole_report}
use Rattle.vtl_files.proofs.config_checks.check_file.Goals as goal

pub returns-in-Ok-print_text : goal.returns-in-Ok-print_text
returns-in-Ok-print_text g c =
    rw c.end_of.ensures
    (whole_report g.D.Disk.state g.D.Disk.effect g.F.ReadFiles.opens_to_read g.F.ReadFiles.closes c.args.word.now
    c.args.label.now c.args.path.now c.as_slice.result.now (c.as_slice.ensures.value ∙ c.in-Ok.ensures)
    c.lines_of-lines.result c.lines_of-lines.ensures c.as_slice-2.result.now
    (c.as_slice-2.ensures.value ∙ c.in-Ok-check_report.ensures) _ _ _
    c.in_default-print_text.ensures.ok c.in-Ok-print_text.ensures.ok)

pub returns : goal.returns
returns g c =
    part_of_report g.D.Disk.state g.D.Disk.effect g.F.ReadFiles.opens_to_read g.F.ReadFiles.closes c.args.word.now
    c.args.label.now c.args.path.now c.as_slice.result.now (c.as_slice.ensures.value ∙ c.in-Ok.ensures)
    c.lines_of-lines.result c.lines_of-lines.ensures c.as_slice-2.result.now
    (c.as_slice-2.ensures.value ∙ c.in-Ok-check_report.ensures)
    c.in-Err-print_text.fault _ _ _ c.in-Err-print_text.ensures.fault c.in_default-print_text.ensures.ok
    c.in-Err-print_text.ensures.err
