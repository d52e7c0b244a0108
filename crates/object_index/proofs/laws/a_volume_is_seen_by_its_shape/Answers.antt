use Rattle.object_index.specs.Facts.{used_by_shape, refusal_by_shape}
use Rattle.object_index.specs.MarkFacts.{mark_count_by_shape, marks_by_shape}
use Rattle.object_index.proofs.laws.a_volume_is_seen_by_its_shape.Goals as goal

pub returns-clause-used : goal.returns-clause-used
returns-clause-used c = used_by_shape

pub returns-clause-refusal : goal.returns-clause-refusal
returns-clause-refusal c = refusal_by_shape

pub returns-clause-marks : goal.returns-clause-marks
returns-clause-marks c = marks_by_shape

pub returns-clause-mark_count : goal.returns-clause-mark_count
returns-clause-mark_count c = mark_count_by_shape
