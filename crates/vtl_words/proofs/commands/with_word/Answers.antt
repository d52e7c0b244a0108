use Rattle.std.proofs.Common.{refl, ◌∙◌}
use Rattle.vtl_words.proofs.commands.with_word.Goals as goal

pub returns-clause-app : goal.returns-clause-app
returns-clause-app c =
    rw c.in_ok-word.was (c.in_ok-added.ensures.shape (rw c.in_ok-word.was at c.requires.word))

pub returns-clause-local : goal.returns-clause-local
returns-clause-local c =
    c.in_ok-added.ensures.globals ∙ rw (c.requires.command, rw c.in_ok-word.was at c.requires.word) refl
