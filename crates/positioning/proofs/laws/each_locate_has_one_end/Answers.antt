use Rattle.positioning.proofs.LawLemmas.{each_locate, no_second_locate}
use Rattle.positioning.proofs.laws.each_locate_has_one_end.Goals as goal

pub returns : goal.returns
returns c = record { some = each_locate; one = no_second_locate }
