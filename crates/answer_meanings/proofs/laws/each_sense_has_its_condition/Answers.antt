use Rattle.answer_meanings.proofs.LawLemmas.{each_attention, each_sense}
use Rattle.answer_meanings.proofs.laws.each_sense_has_its_condition.Goals as goal

pub returns : goal.returns
returns c = record { senses = each_sense; attentions = each_attention }
