use Rattle.split_bay.proofs.noted.by_medium.Given as goal

abbrev pub ghost-note : goal.ghost-note
ghost-note g a = g.begin
