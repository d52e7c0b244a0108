use Rattle.std.proofs.Common.{[], arith}
use Rattle.vtl_wire.specs.Requests.{IsRequest, frame_of_request, request_frames}
use Rattle.vtl_wire.proofs.BeginLemmas.{short_begins}
use Rattle.vtl_wire.proofs.LawLemmas.{none_refused, one_list, one_refused}
use Rattle.vtl_wire.proofs.RequestLemmas.{one_request, request_numbers}
use Rattle.vtl_wire.proofs.laws.bytes_spell_requests_or_are_refused.Goals as goal

pub returns : goal.returns
returns c =
    let nothing = short_begins IsRequest frame_of_request request_numbers [] (omega arith) in record {
      one_list = one_list request_frames one_request nothing;
      one_frame = one_refused request_frames one_request nothing;
      sound = none_refused request_frames one_request nothing;
    }
