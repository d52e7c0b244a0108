use Rattle.std.proofs.Common.{take, refl, ap, subst, sym}
use Rattle.std.proofs.lemmas.Result.{err_from_is_err_and}
use Rattle.gate_journal.specs.Side.{Heading}
use Rattle.gate_journal.specs.Inner.Asked.{IsAsked}
use Rattle.gate_journal.specs.declared.reading.ReadFront.{ReadFront}
use Rattle.gate_journal.proofs.AskedLemmas.{begins_asked}
use Rattle.gate_journal.proofs.SpelledLemmas.{read_begins, read_start, read_well}
use Rattle.gate_journal.proofs.reading.read_asked.Goals as goal

pub returns-in_err-header-clause-answer : goal.returns-in_err-header-clause-answer
returns-in_err-header-clause-answer g c =
    let found = c.in_ok-found.ensures.answer.0 in
    let bytes = take c.in_ok-found.found.len c.in_ok-found.found.bytes in
    let p = err_from_is_err_and c.from_residual-in_err-header.result c.from_residual-in_err-header.ensures.1 in
    rw (p.1, p.2) (
      found.0,
      λ honest.
          let begins = found.3 honest in
          begins_asked c.args.asked bytes c.in_ok-found.parsed begins.0 (g.D.Disk.state c.args.disk.now).seen found.2
          c.in_ok-found.ensures.answer.1 begins.1,
    )

pub returns-clause-answer : goal.returns-clause-answer
returns-clause-answer g c =
    let found = c.in_ok-found.ensures.answer.0 in
    let bytes = take c.in_ok-found.found.len c.in_ok-found.found.bytes in
    let parsed = c.in_ok-found.parsed in
    let read : ReadFront =
    record { header = c.in_ok-header.header; copied = parsed.copied; pair = parsed.pair; start = parsed.size } in (
      (
        found.0,
        read_well bytes parsed read found.2 c.in_ok-header.ensures refl refl,
        read_start bytes parsed read found.2 c.in_ok-header.ensures refl refl refl,
        λ honest.
            let begins = found.3 honest in
            read_begins bytes parsed read found.2 c.in_ok-header.ensures refl refl
            (g.D.Disk.state c.args.disk.now).seen begins.0 begins.1,
      ),
      subst (IsAsked c.args.asked) (sym (ap (λ (h : Heading). h.kind) c.in_ok-header.ensures))
          c.in_ok-found.ensures.answer.1,
    )
