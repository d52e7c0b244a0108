use Rattle.crc32c.proofs.KnownLemmas.{known}
use Rattle.crc32c.proofs.laws.known_sums.Goals as goal

pub returns : goal.returns
returns c = known
