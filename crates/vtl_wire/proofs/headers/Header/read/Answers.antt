use Rattle.std.proofs.Common.{arith}
use Rattle.vtl_wire.proofs.HeaderLemmas.{header_is, no_header_is}
use Rattle.vtl_wire.proofs.headers.Header.read.Goals as goal

pub returns-clause-found : goal.returns-clause-found
returns-clause-found c =
    header_is c.args.bytes.now c.header_at.result c.requires (λ i. omega (arith, c.type_inv.bytes i))
    c.header_at.ensures

pub returns-clause-none : goal.returns-clause-none
returns-clause-none c = no_header_is c.args.bytes.now c.header_at.result c.header_at.ensures
