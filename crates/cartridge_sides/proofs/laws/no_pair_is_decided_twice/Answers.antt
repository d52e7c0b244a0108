use Rattle.std.specs.Prelude.{◌++◌, ◌∷◌}
use Rattle.std.specs.List.{flat_map}
use Rattle.gate_journal.specs.Side.{frame}
use Rattle.cartridge_sides.specs.Inner.Decided.{one_thing, one_place, sound}
use Rattle.cartridge_sides.proofs.laws.no_pair_is_decided_twice.Goals as goal

pub returns : goal.returns
returns c = record {
  one_thing = one_thing;
  one_place = one_place;
  sound = sound;
  ours = λ first second w h bs s never. never w h (flat_map frame bs ++ s.1.0 ∷ s.1.1) s.1.3;
  ours_damaged = λ first second at d never. never d.0 d.1 (flat_map frame d.2 ++ d.3) d.5;
}
