-- The laws of the lines.
use Rattle.std.proofs.Common.{refl, arith, true, false}
use Rattle.std.specs.Prelude.{codes, None, Some}
use Rattle.scsi_attention.specs.declared.attention_sets.Attention.TheVariants.{PowerOn, MediumChanged, ReservationsPreempted, RegistrationsPreempted, ReservationsReleased, ModeChanged}
use Rattle.scsi_sense.specs.Senses.{filemark_detected, attention_sense, invalid_element_address, invalid_field, invalid_parameter, parameter_list_length_error, invalid_release, beginning, destination_full, early_warning, end_of_data, deferred_write_error, keeper_failed, medium_failed, insufficient_resources, volume_overflow, medium_not_present, no_sense, incorrect_length, read_error, source_empty, store_full, invalid_operation_code, write_error}
use Rattle.answer_meanings.specs.Laws.{EachAttentionIsACondition, EachLineFits, EachSenseHasItsCondition}
use Rattle.answer_meanings.specs.SenseTexts.{rest}
use Rattle.answer_meanings.proofs.FitLemmas.{around, by_text, length_rest_fits, rest_fits}

pub each_sense : EachSenseHasItsCondition
each_sense = record {
  nothing = refl;
  incorrect_length = λ _. refl;
  filemark = λ _. refl;
  early_warning = refl;
  beginning = λ _. refl;
  end_of_data = λ _. refl;
  no_room = λ _. refl;
  not_present = refl;
  write_error = refl;
  deferred = refl;
  read_error = refl;
  medium = refl;
  keeper = refl;
  no_memory = refl;
  command = refl;
  block = refl;
  list_length = refl;
  list = refl;
  release = refl;
  address = refl;
  destination = refl;
  source = refl;
  store = refl;
}

pub each_attention : EachAttentionIsACondition
each_attention = record {
  power_on = refl;
  medium = refl;
  reservations = refl;
  registrations = refl;
  released = refl;
  mode = refl;
}

pub fit : EachLineFits
fit = record {
  nothing = by_text no_sense (λ counted. omega arith);
  incorrect_length = λ r small. by_text (incorrect_length r) (λ counted. around
      (codes "the block has another length than the read")
      (rest (Some r) true counted) (codes " (ILI, 00/00)") (length_rest_fits r counted small) (omega arith));
  filemark = λ r small. by_text (filemark_detected r) (λ counted. around
      (codes "a filemark was reached")
      (rest (Some r) false counted) (codes " (FILEMARK, 00/01)") (rest_fits r counted small) (omega arith));
  early_warning = by_text early_warning (λ counted. omega arith);
  beginning = λ r small. by_text (beginning r) (λ counted. around
      (codes "the beginning of the partition was reached")
      (rest (Some r) false counted) (codes " (EOM, 00/04)") (rest_fits r counted small) (omega arith));
  end_of_data = λ r small. by_text (end_of_data (Some r)) (λ counted. around
      (codes "the end of data was reached")
      (rest (Some r) false counted) (codes " (00/05)") (rest_fits r counted small) (omega arith));
  end_alone = by_text (end_of_data None) (λ counted. omega arith);
  no_room = λ r small. by_text (volume_overflow (Some r)) (λ counted. around
      (codes "there is no room, and nothing changed")
      (rest (Some r) false counted) (codes " (EOM, 00/02)") (rest_fits r counted small) (omega arith));
  no_room_alone = by_text (volume_overflow None) (λ counted. omega arith);
  not_present = by_text medium_not_present (λ counted. omega arith);
  write_error = by_text write_error (λ counted. omega arith);
  deferred = by_text deferred_write_error (λ counted. omega arith);
  read_error = by_text read_error (λ counted. omega arith);
  medium = by_text medium_failed (λ counted. omega arith);
  keeper = by_text keeper_failed (λ counted. omega arith);
  no_memory = by_text insufficient_resources (λ counted. omega arith);
  command = by_text invalid_operation_code (λ counted. omega arith);
  block = by_text invalid_field (λ counted. omega arith);
  list_length = by_text parameter_list_length_error (λ counted. omega arith);
  list = by_text invalid_parameter (λ counted. omega arith);
  release = by_text invalid_release (λ counted. omega arith);
  address = by_text invalid_element_address (λ counted. omega arith);
  destination = by_text destination_full (λ counted. omega arith);
  source = by_text source_empty (λ counted. omega arith);
  store = by_text store_full (λ counted. omega arith);
  power_on = by_text (attention_sense PowerOn) (λ counted. omega arith);
  medium_changed = by_text (attention_sense MediumChanged) (λ counted. omega arith);
  reservations = by_text (attention_sense ReservationsPreempted) (λ counted. omega arith);
  registrations = by_text (attention_sense RegistrationsPreempted) (λ counted. omega arith);
  released = by_text (attention_sense ReservationsReleased) (λ counted. omega arith);
  mode = by_text (attention_sense ModeChanged) (λ counted. omega arith);
}
