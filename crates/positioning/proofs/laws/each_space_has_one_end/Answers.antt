use Rattle.positioning.proofs.WalkLemmas.{each_ends}
use Rattle.positioning.proofs.LawLemmas.{no_second_end}
use Rattle.positioning.proofs.laws.each_space_has_one_end.Goals as goal

pub returns : goal.returns
returns c = record { some = each_ends; one = no_second_end }
