use Rattle.std.proofs.Common.{sym}
use Rattle.std.proofs.lemmas.Result.{err_from_is_err_and}
use Rattle.vtl_wire.specs.Reads.{IsHeaderLong}
use Rattle.vtl_wire.specs.Requests.{IsRequest, frame_of_request}
use Rattle.vtl_wire.proofs.BeginLemmas.{refused_cut, refused_header}
use Rattle.vtl_wire.proofs.RequestLemmas.{request_numbers}
use Rattle.vtl_wire.proofs.RequestReadLemmas.{missed_parts}
use Rattle.vtl_wire.proofs.request_readers.find_request.Goals as goal

pub returns-in-Refused-clause-found : goal.returns-in-Refused-clause-found
returns-in-Refused-clause-found g c =
    let read = rw c.in-Refused.is at c.in_ok-header.ensures.header in
    refused_header IsRequest frame_of_request request_numbers IsHeaderLong (λ bytes long. long) _ _ read.0 read.1 read.2
    read.3

pub returns-in_err-parts-clause-fault : goal.returns-in_err-parts-clause-fault
returns-in_err-parts-clause-fault g c =
    let header = rw c.in-Frame.is at c.in_ok-header.ensures.header in
    let exit = err_from_is_err_and c.from_residual-in_err-parts.result c.from_residual-in_err-parts.ensures.1 in
    rw (exit.1, exit.2) (missed_parts _ _ _ c.in-Frame.header c.in-Some.head c.in_err-parts.field-0.0 header.0
    (sym c.in-Some.ensures) header.1 c.in_err-parts.ensures.fault)

pub returns-in-None-clause-found : goal.returns-in-None-clause-found
returns-in-None-clause-found g c =
    let header = rw c.in-Frame.is at c.in_ok-header.ensures.header in
    let parts = rw c.in-None.is at c.in_ok-parts.ensures.parts in
    refused_cut IsRequest frame_of_request request_numbers IsHeaderLong _ _ _ c.in-Frame.header header.0 header.1 parts
