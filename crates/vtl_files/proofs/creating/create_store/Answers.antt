use Rattle.std.proofs.Common.{◌∷◌, ◌++◌, [], ◌∙◌, ap, subst}
use Rattle.gate_journal.specs.Side.{CLOSED, Heading, plain, spell}
use Rattle.aptpl_store.specs.Contents.{GivesStates}
use Rattle.vtl_files.proofs.creating.create_store.Goals as goal

pub returns-in-Ok-clause-ok : goal.returns-in-Ok-clause-ok
returns-in-Ok-clause-ok g c =
    let made = rw c.in-Some.is at c.in_ok-name.ensures in (
      c.in-Some.disk,
      made.1,
      (
        c.in-Ok.store.disk,
        rw (made.0, c.close.ensures) at c.leave.ensures,
        record {
          none_failed = c.in-Ok.ensures.ok.5;
          bytes = λ honest.
              c.in-Ok.ensures.bytes honest
              ∙ ap (λ (h : Heading). spell (plain h) [] ++ CLOSED ∷ []) c.in-Ok.ensures.ok.0;
          sure = λ honest image left.
              subst (λ (h : Heading). GivesStates h [] image) c.in-Ok.ensures.ok.0
              (c.in-Ok.ensures.sure honest image left);
        },
      ),
    )
