use Rattle.std.proofs.Common.{sym, inr, ◌∙◌}
use Rattle.std.proofs.KnownBytes.{Consumes-trans}
use Rattle.std.proofs.lemmas.Result.{err_from_is_err_and}
use Rattle.vtl_wire.specs.declared.answer_heads.AnswerHead.TheVariants as heads
use Rattle.vtl_wire.proofs.AnswerReadLemmas.{data_cut, data_missed, front_refused, reply_found}
use Rattle.vtl_wire.proofs.answer_parts.find_reply.Goals as goal

pub returns-in_default-front_in-clause-found : goal.returns-in_default-front_in-clause-found
returns-in_default-front_in-clause-found g c =
    let first = rw c.in-Some.is at c.in_ok-first.ensures.bytes in
    front_refused _ _ c.args.header c.requires.fits c.args.head c.requires.says c.in-Some.first first.0 first.1
    (λ sense valid same. c.in_default-front_in.ensures.none sense valid (c.as_slice.ensures ∙ same))

pub read_data-requires : goal.read_data-requires
read_data-requires g c = inr (heads.Reply c.args.head, c.requires.says)

pub returns-in_err-bytes-clause-fault : goal.returns-in_err-bytes-clause-fault
returns-in_err-bytes-clause-fault g c =
    let first = rw c.in-Some.is at c.in_ok-first.ensures.bytes in
    let front = c.in-Some-front_in.ensures.found in
    let exit = err_from_is_err_and c.from_residual-in_err-bytes.result c.from_residual-in_err-bytes.ensures.1 in
    rw (exit.1, exit.2)
    (data_missed _ _ c.args.header c.requires.fits _ c.args.head c.requires.says c.in-Some-front_in.front.sense front.0
    c.in-Some.first (sym c.as_slice.ensures ∙ front.1) first.0 first.1 c.in_err-bytes.field-0.0
    c.in_err-bytes.ensures.fault)

pub returns-in-Some-2-clause-found : goal.returns-in-Some-2-clause-found
returns-in-Some-2-clause-found g c =
    let first = rw c.in-Some.is at c.in_ok-first.ensures.bytes in
    let front = c.in-Some-front_in.ensures.found in
    let bytes = rw c.in-Some-2.is at c.in_ok-bytes.ensures.bytes in
    rw c.answer_with.ensures
    (reply_found _ _ c.args.header c.requires.fits c.args.head c.requires.says c.in-Some-front_in.front.sense front.0
    c.in-Some.first c.in-Some-2.bytes (sym c.as_slice.ensures ∙ front.1) first.0 bytes.0
    (Consumes-trans _ _ _ c.in-Some.first c.in-Some-2.bytes first.1 bytes.1))

pub returns-clause-found : goal.returns-clause-found
returns-clause-found g c =
    let first = rw c.in-Some.is at c.in_ok-first.ensures.bytes in
    let bytes = rw c.in-None.is at c.in_ok-bytes.ensures.bytes in
    data_cut _ _ c.args.header c.requires.fits _ c.in-Some.first first.0 first.1 bytes
