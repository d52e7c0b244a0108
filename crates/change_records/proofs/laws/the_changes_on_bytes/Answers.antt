use Rattle.change_records.specs.ChangesOn.{changes_on_is, changes_on_spelled, no_changes_on}
use Rattle.change_records.proofs.laws.the_changes_on_bytes.Goals as goal

pub returns : goal.returns
returns c = record {
  spelled = λ bytes changes. (changes_on_spelled bytes changes, changes_on_is bytes changes);
  bad = no_changes_on;
}
