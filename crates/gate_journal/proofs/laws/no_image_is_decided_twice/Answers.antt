use Rattle.gate_journal.specs.Inner.Sides.{one_side, one_place, sound, never_ours, stands, damaged}
use Rattle.gate_journal.proofs.laws.no_image_is_decided_twice.Goals as goal

pub returns : goal.returns
returns c = record {
  one_side = one_side;
  one_place = one_place;
  sound = sound;
  ours = λ image h bs s never. never_ours image h bs _ (stands image h bs s) never;
  ours_damaged = λ image at d never. never_ours image d.0 d.1 d.2 (damaged image at d) never;
}
