use Rattle.scsi_attention.proofs.EstablishedLemmas.{each_set, others_stay, none_lost}
use Rattle.scsi_attention.proofs.laws.each_gets_its_own.Goals as goal

pub returns-clause-established : goal.returns-clause-established
returns-clause-established c = each_set

pub returns-clause-others : goal.returns-clause-others
returns-clause-others c = others_stay

pub returns-clause-all : goal.returns-clause-all
returns-clause-all c = none_lost
