use Rattle.noted_values.proofs.note_both.Given as goal

abbrev pub ghost-note : goal.ghost-note
ghost-note g a = g.value
