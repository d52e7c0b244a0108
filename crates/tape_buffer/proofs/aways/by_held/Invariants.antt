use Rattle.tape_buffer.proofs.aways.by_held.Given as goal

abbrev pub ghost-note : goal.ghost-note
ghost-note g a = g.seen
