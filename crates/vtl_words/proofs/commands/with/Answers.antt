use Rattle.std.proofs.Common.{refl, ◌∙◌}
use Rattle.vtl_words.proofs.commands.with.Goals as goal

pub returns-clause-app : goal.returns-clause-app
returns-clause-app c = c.in_ok-added.ensures.shape c.requires.arg

pub returns-clause-local : goal.returns-clause-local
returns-clause-local c = c.in_ok-added.ensures.globals ∙ rw (c.requires.local, c.requires.arg) refl
