use Rattle.std.proofs.Common.{◌∙◌, Err, inl, inr, ap}
use Rattle.std.proofs.KnownBytes.{Keeps-refl}
use Rattle.vtl_files.specs.Reclaims.{IsKeptBack, IsUnseen, MayOpen}
use Rattle.vtl_files.proofs.reclaiming.reclaim_files.Goals as goal

-- both files are opened, and reclaimed
pub returns-in-Ok-Some : goal.returns-in-Ok-Some
returns-in-Ok-Some g c =
    let named = c.as_str.ensures ∙ c.open-name.ensures.used in
    let seen : MayOpen g.F.LookFiles.looks g.F.LookFiles.pairs c.args.entry.file c.args.entry.second_file
    c.in-Ok-Some.is_paired =
    rw (named, c.in-Ok-Some.field-0-is) at c.in-Ok-Some.ensures.ok in
    inl (
      c.in-Ok.first,
      rw c.in-Ok.is at c.open-name.ensures.answer,
      inl (c.in-Ok-Some.is_paired, seen, rw c.open-name.ensures.used at c.reclaim_opened.ensures),
    )

-- the second file is kept back
pub returns-in-Ok-None : goal.returns-in-Ok-None
returns-in-Ok-None g c =
    let named = c.as_str.ensures ∙ c.open-name.ensures.used in
    let seen : IsKeptBack g.F.LookFiles.looks g.F.LookFiles.pairs c.args.entry.file c.args.entry.second_file =
    rw (named, c.in-Ok-None.field-0-is) at c.in-Ok-None.ensures.ok in
    inl (
      c.in-Ok.first,
      rw c.in-Ok.is at c.open-name.ensures.answer,
      inr (inl (
        seen,
        rw c.open-name.ensures.used at c.return_disk.ensures,
        (c.not_reclaimed_text.result, c.not_reclaimed_text.ensures, c.print_reclaim.ensures),
      )),
    )

-- a file could not be looked at
pub returns-in-Err-pair_seen : goal.returns-in-Err-pair_seen
returns-in-Err-pair_seen g c =
    let named = c.as_str.ensures ∙ c.open-name.ensures.used in
    let unseen : IsUnseen g.F.LookFiles.looks g.F.LookFiles.pairs c.args.entry.file c.args.entry.second_file =
    rw named at c.in-Err-pair_seen.ensures.err.1 in
    inl (
      c.in-Ok.first,
      rw c.in-Ok.is at c.open-name.ensures.answer,
      inr (inr (
        ap Err c.in-Err-pair_seen.ensures.err.0,
        Keeps-refl _,
        rw c.open-name.ensures.used at c.return_disk-in-Err-pair_seen.ensures,
        unseen,
      )),
    )
