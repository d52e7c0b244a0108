use Rattle.std.proofs.Common.{sym, ◌∙◌}
use Rattle.volume_copy.proofs.CursorLemmas.{nothing_more}
use Rattle.volume_copy.proofs.cursor.Cursor.next.Goals as goal

pub returns-in-None-clause-none : goal.returns-in-None-clause-none
returns-in-None-clause-none c =
    let here = c.settled-here.result in
    sym c.settled-here.ensures.same
    ∙ nothing_more c.args.index.now here.part here.at (sym c.in-None.ensures) c.settled-here.ensures.inside
