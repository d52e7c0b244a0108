use Rattle.cartridge.specs.Inner.Unique.{bad_once, gives_good, gives_one, gives_ours, gives_whole}
use Rattle.cartridge.proofs.laws.a_pair_gives_one_volume.Goals as goal

pub returns : goal.returns
returns c = record {
  contents = gives_one;
  ours = gives_ours;
  whole = gives_whole;
  bad = gives_good;
  one_place = bad_once;
}
