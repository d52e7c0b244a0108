use Rattle.std.specs.Prelude.{[], ◌∷◌}
use Rattle.tape_buffer.specs.Aways.{seen_with}
use Rattle.tape_buffer.proofs.aways.noted_with.Given as goal

abbrev pub ghost-note : goal.ghost-note
ghost-note a = seen_with a._from.now.0.now (a._from.now.1.now ∷ [])
