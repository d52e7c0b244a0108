use Rattle.file_disk.specs.Inner.SystemFile.{of_honest, as_honest}
use Rattle.file_disk.proofs.system.SystemFileRawFile.write_some.Goals as goal

pub returns-in-Ok-clause-time : goal.returns-in-Ok-clause-time
returns-in-Ok-clause-time c = λ honest. of_honest c.args.self.now honest

pub returns-in-Ok-clause-writes : goal.returns-in-Ok-clause-writes
returns-in-Ok-clause-writes c = λ honest. of_honest c.args.self.now honest

pub returns-in-Err-clause-time : goal.returns-in-Err-clause-time
returns-in-Err-clause-time c = λ honest. of_honest c.args.self.now honest

pub returns-in-Err-clause-writes : goal.returns-in-Err-clause-writes
returns-in-Err-clause-writes c = λ honest. of_honest c.args.self.now honest

pub returns-in-Ok-clause-again : goal.returns-in-Ok-clause-again
returns-in-Ok-clause-again c = λ honest. of_honest c.args.self.now honest

pub returns-in_default-clause-time : goal.returns-in_default-clause-time
returns-in_default-clause-time c = λ honest. of_honest c.args.self.now honest

pub returns-in_default-clause-writes : goal.returns-in_default-clause-writes
returns-in_default-clause-writes c = λ honest. of_honest c.args.self.now honest

pub returns-in-Ok-clause-honesty : goal.returns-in-Ok-clause-honesty
returns-in-Ok-clause-honesty c = as_honest _ _

pub returns-in-Ok-clause-reaches : goal.returns-in-Ok-clause-reaches
returns-in-Ok-clause-reaches c = λ honest. of_honest c.args.self.now honest

pub returns-in-Ok-clause-unsynced : goal.returns-in-Ok-clause-unsynced
returns-in-Ok-clause-unsynced c = λ honest. of_honest c.args.self.now honest

pub returns-in-Err-clause-honesty : goal.returns-in-Err-clause-honesty
returns-in-Err-clause-honesty c = as_honest _ _

pub returns-in-Err-clause-reaches : goal.returns-in-Err-clause-reaches
returns-in-Err-clause-reaches c = λ honest. of_honest c.args.self.now honest

pub returns-in-Err-clause-unsynced : goal.returns-in-Err-clause-unsynced
returns-in-Err-clause-unsynced c = λ honest. of_honest c.args.self.now honest
