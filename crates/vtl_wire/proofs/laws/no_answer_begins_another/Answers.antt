use Rattle.vtl_wire.proofs.AnswerLemmas.{one_answer}
use Rattle.vtl_wire.proofs.laws.no_answer_begins_another.Goals as goal

pub returns : goal.returns
returns c = one_answer
