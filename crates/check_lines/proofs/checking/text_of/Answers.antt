use Rattle.std.proofs.Common.{sym}
use Rattle.check_lines.proofs.SideTextLemmas.{text_before, text_whole}
use Rattle.check_lines.proofs.checking.text_of.Goals as goal

pub returns-in-Some : goal.returns-in-Some
returns-in-Some c = λ text is padded_is.
    text_before c.args.name.now text is padded_is c.in-Some.count (sym c.in-Some.ensures.place)

pub returns-in-None : goal.returns-in-None
returns-in-None c = λ text is padded_is. text_whole c.args.name.now text is padded_is
    (sym c.in-None.ensures.place)
