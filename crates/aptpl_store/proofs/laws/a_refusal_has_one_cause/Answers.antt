use Rattle.aptpl_store.proofs.UniqueLemmas.{bad_ours, bad_whole, damaged_once, damaged_ours}
use Rattle.aptpl_store.proofs.laws.a_refusal_has_one_cause.Goals as goal

pub returns : goal.returns
returns c = record {
  none_damaged = damaged_ours;
  none_bad = bad_ours;
  damaged_bad = bad_whole;
  one_place = damaged_once;
}
