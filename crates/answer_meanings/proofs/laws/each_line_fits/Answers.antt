use Rattle.answer_meanings.proofs.LawLemmas.{fit}
use Rattle.answer_meanings.proofs.laws.each_line_fits.Goals as goal

pub returns : goal.returns
returns c = fit
