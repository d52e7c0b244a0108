use Rattle.change_records.specs.Inner.Decided.{same_list, bad_is_one, never_both}
use Rattle.change_records.proofs.laws.bytes_spell_at_most_one_list.Goals as goal

pub returns : goal.returns
returns c = record { one_list = same_list; one_place = bad_is_one; sound = never_both }
