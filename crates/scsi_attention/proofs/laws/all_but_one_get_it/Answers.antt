use Rattle.scsi_attention.proofs.EstablishedLemmas.{each_other_gets, the_one_gets_none}
use Rattle.scsi_attention.proofs.laws.all_but_one_get_it.Goals as goal

pub returns-clause-others : goal.returns-clause-others
returns-clause-others c = each_other_gets

pub returns-clause-one : goal.returns-clause-one
returns-clause-one c = the_one_gets_none
