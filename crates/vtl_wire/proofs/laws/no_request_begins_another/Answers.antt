use Rattle.vtl_wire.proofs.RequestLemmas.{one_request}
use Rattle.vtl_wire.proofs.laws.no_request_begins_another.Goals as goal

pub returns : goal.returns
returns c = one_request
