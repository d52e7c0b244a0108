use Rattle.std.proofs.Common.{inl, inr, refl}
use Rattle.vtl_words.specs.Orders.{asked_of}
use Rattle.vtl_power_on.proofs.IdleLemmas.{keeps_same}
use Rattle.vtl_program.proofs.orders.run.Goals as goal
use Rattle.vtl_program.proofs.orders.run.Goals.{in-Ok, in-Ok-read_words, in-Err-read_words, in-Err}

pub returns : goal.returns
returns g c = record {
  outcome = c.match-words.outcome;
  obeys =
      elim c.match-words.branch [
        | in-Ok w ↦ rw (w.in-Ok.is, w.reader-is, w.writer-is, w.outcome-is)
            (elim w.match-read_words.branch [
              | in-Ok-read_words w' ↦ rw (w'.reader-is, w'.writer-is, w'.outcome-is) (inl (
                asked_of w'.in-Ok-read_words.order,
                rw w.as_slice.ensures.value at w'.in-Ok-read_words.ensures.ok,
                w'.do_order.ensures,
              ))
              | in-Err-read_words w' ↦ rw (w'.reader-is, w'.writer-is, w'.outcome-is) (inr (
                w'.in-Err-read_words.error,
                rw w.as_slice.ensures.value at w'.in-Err-read_words.ensures.err,
                w'.answer_words.ensures,
                keeps_same _,
              ))
            ])
        | in-Err w ↦ rw (w.in-Err.is, w.reader-is, w.writer-is, w.outcome-is) (refl, (keeps_same _, keeps_same _))
      ];
  ends = c.end.ensures;
}
