use Rattle.aptpl_store.proofs.UniqueLemmas.{bad_once, gives_good, gives_one, gives_ours, gives_whole, opens_one}
use Rattle.aptpl_store.proofs.laws.an_image_gives_one_store.Goals as goal

pub returns : goal.returns
returns c = record {
  states = gives_one;
  opens = opens_one;
  ours = gives_ours;
  whole = gives_whole;
  bad = gives_good;
  one_place = bad_once;
}
