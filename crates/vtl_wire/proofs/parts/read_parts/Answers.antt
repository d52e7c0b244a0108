use Rattle.std.proofs.Common.{ℕ, ◌+◌, subst}
use Rattle.std.proofs.lemmas.Result.{err_from_is_err_and}
use Rattle.vtl_wire.specs.Inner.Reading.{EndsWithin}
use Rattle.vtl_wire.proofs.FillLemmas.{ends_later}
use Rattle.vtl_wire.proofs.RequestReadLemmas.{missed_second}
use Rattle.vtl_wire.proofs.parts.read_parts.Goals as goal

pub returns-in_err-payload-clause-fault : goal.returns-in_err-payload-clause-fault
returns-in_err-payload-clause-fault g c =
    let first = rw c.in-Some.is at c.in_ok-front.ensures.bytes in
    let exit = err_from_is_err_and c.from_residual-in_err-payload.result c.from_residual-in_err-payload.ensures.1 in
    rw (exit.1, exit.2) (missed_second _ _ _ c.in-Some.front c.args.header.front c.args.header.payload
    c.in_err-payload.field-0.0 first.0 first.1 c.in_err-payload.ensures.fault)

pub returns-in-None-clause-parts : goal.returns-in-None-clause-parts
returns-in-None-clause-parts g c =
    let first = rw c.in-Some.is at c.in_ok-front.ensures.bytes in
    let second = rw c.in-None.is at c.in_ok-payload.ensures.bytes in
    subst (λ (n : ℕ). EndsWithin (g.R.Read.remaining c.args.reader.now)
    (g.R.Read.remaining c.read_data.new.reader) (n + c.args.header.payload)) first.0
    (ends_later _ _ _ c.in-Some.front c.args.header.payload first.1 second)
