use Rattle.positioning.proofs.LawLemmas.{forward_no_start, backward_no_end, filemarks_stop_none, only_done_leaves_nothing}
use Rattle.positioning.proofs.laws.each_stop_suits.Goals as goal

pub returns : goal.returns
returns c = record {
  forward = forward_no_start;
  backward = backward_no_end;
  filemarks = filemarks_stop_none;
  left = only_done_leaves_nothing;
}
