use Rattle.check_lines.proofs.OneTextLemmas.{one_text, some_text}
use Rattle.check_lines.proofs.laws.each_pair_has_one_text.Goals as goal

pub returns : goal.returns
returns c = record {
  some = λ images.
      some_text images (c.each_pair_is_answered.ensures images) (c.each_image_is_answered.ensures images.0);
  one = λ images a b first second. one_text (record {
    contents = c.a_pair_gives_one_volume.ensures.contents;
    counts = c.a_pair_gives_one_volume.ensures.ours;
    whole = c.a_pair_gives_one_volume.ensures.whole;
    good = c.a_pair_gives_one_volume.ensures.bad;
    bad_once = c.a_pair_gives_one_volume.ensures.one_place;
    none_damaged = c.a_refusal_has_one_cause.ensures.none_damaged;
    none_bad = c.a_refusal_has_one_cause.ensures.none_bad;
    damaged_bad = c.a_refusal_has_one_cause.ensures.damaged_bad;
    damaged_once = c.a_refusal_has_one_cause.ensures.one_place;
    states = c.an_image_gives_one_store.ensures.states;
    opens = c.an_image_gives_one_store.ensures.opens;
    store_counts = c.an_image_gives_one_store.ensures.ours;
    store_whole = c.an_image_gives_one_store.ensures.whole;
    store_good = c.an_image_gives_one_store.ensures.bad;
    store_bad_once = c.an_image_gives_one_store.ensures.one_place;
    store_none_damaged = c.a_refusal_has_one_cause-2.ensures.none_damaged;
    store_none_bad = c.a_refusal_has_one_cause-2.ensures.none_bad;
    store_damaged_bad = c.a_refusal_has_one_cause-2.ensures.damaged_bad;
    store_damaged_once = c.a_refusal_has_one_cause-2.ensures.one_place;
  }) images a b first second;
}
