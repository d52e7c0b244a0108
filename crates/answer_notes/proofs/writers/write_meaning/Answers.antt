use Rattle.answer_notes.proofs.WriterLemmas.{written_part}
use Rattle.answer_notes.proofs.writers.write_meaning.Goals as goal

pub returns : goal.returns
returns g c =
    written_part c.write_text.result _ _ _
    (rw (c.as_bytes.ensures.value, c.as_str.ensures.value, c.in-Ok.ensures.ok) at c.write_text.ensures.ok)
    (rw (c.as_bytes.ensures.value, c.as_str.ensures.value, c.in-Ok.ensures.ok) at c.write_text.ensures.err)
