use Rattle.std.proofs.Common.{ap}
use Rattle.split_bay.specs.Beginnings.{nothing_begins}
use Rattle.split_bay.specs.Rings.{SendingState}
use Rattle.split_bay.proofs.JoinedLemmas.{begun_so}
use Rattle.split_bay.proofs.both.detach_none.Goals as goal

pub returns-clause-none : goal.returns-clause-none
returns-clause-none g c =
    begun_so c.args.sending.now.sent c.begin_span.new.sending.sent c.of-noted.result nothing_begins
    (ap (λ (s : SendingState). s.sent) c.begin_span.ensures.sending) c.of-noted.ensures
