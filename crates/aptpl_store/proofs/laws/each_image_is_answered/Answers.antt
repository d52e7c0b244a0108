use Rattle.aptpl_store.proofs.AnswerLemmas.{answered}
use Rattle.aptpl_store.proofs.laws.each_image_is_answered.Goals as goal

pub returns : goal.returns
returns c = answered
