use Rattle.vtl_program.proofs.ExplainLemmas.{explained}
use Rattle.vtl_program.proofs.explaining.explain.Goals as goal

pub returns : goal.returns
returns g c =
    rw c.if-not-asked.false
    (explained c.write_text.result _ _ c.in-Ok.lines c.as_str.ensures.lines
    (rw (c.as_bytes.ensures.value, c.as_str.ensures.value) at c.write_text.ensures.ok)
    (rw (c.as_bytes.ensures.value, c.as_str.ensures.value) at c.write_text.ensures.err))
