use Rattle.std.proofs.Common.{◌∙◌, subst, arith}
use Rattle.std.specs.Io.KnownBytes.{Consumes}
use Rattle.std.proofs.lemmas.List.{take_all}
use Rattle.vtl_wire.proofs.reading.read_header.Goals as goal

pub returns-in-Some-clause-header : goal.returns-in-Some-clause-header
returns-in-Some-clause-header g c =
    let bytes = c.fill.new.slice in
    let all = take_all c.in_ok-count.count bytes (omega (arith, c.if-count-lt-HEADER_BYTES.false)) in (
      c.in-Some.ensures.found.0,
      subst (Consumes _ _) (all ∙ c.in-Some.ensures.found.1) c.in_ok-count.ensures.taken,
    )
