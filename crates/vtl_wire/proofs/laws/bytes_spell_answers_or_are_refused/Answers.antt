use Rattle.std.proofs.Common.{[], arith}
use Rattle.vtl_wire.specs.Answers.{IsAnswer, answer_frames, frame_of_answer}
use Rattle.vtl_wire.proofs.BeginLemmas.{short_begins}
use Rattle.vtl_wire.proofs.LawLemmas.{none_refused, one_list, one_refused}
use Rattle.vtl_wire.proofs.AnswerLemmas.{answer_numbers, one_answer}
use Rattle.vtl_wire.proofs.laws.bytes_spell_answers_or_are_refused.Goals as goal

pub returns : goal.returns
returns c =
    let nothing = short_begins IsAnswer frame_of_answer answer_numbers [] (omega arith) in record {
      one_list = one_list answer_frames one_answer nothing;
      one_frame = one_refused answer_frames one_answer nothing;
      sound = none_refused answer_frames one_answer nothing;
    }
