use Rattle.std.proofs.Common.{◌∙◌, inr, refl}
use Rattle.vtl_files.proofs.opened.opened_both.Goals as goal

pub returns-in-Err-opened-clause-err : goal.returns-in-Err-opened-clause-err
returns-in-Err-opened-clause-err g c =
    let named = c.as_str.ensures ∙ c.open-name.ensures.used in (
      refl,
      inr (
        c.in-Ok.disk,
        rw c.in-Ok.is at c.open-name.ensures.answer,
        (
          inr (
            c.in-Ok-is_paired.is_paired,
            rw (c.in-Ok-is_paired.is, named) at c.is_paired.ensures,
            (c.in-Err-opened.field-0, rw c.in-Err-opened.is at c.open_second-second_name.ensures.answer),
          ),
          rw c.open-name.ensures.used at c.return_disk-in-Err-opened.ensures,
        ),
      ),
    )
