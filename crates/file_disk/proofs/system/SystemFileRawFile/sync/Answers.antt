use Rattle.file_disk.specs.Inner.SystemFile.{of_honest, as_honest}
use Rattle.file_disk.proofs.system.SystemFileRawFile.sync.Goals as goal

pub returns-in-Ok-clause-time : goal.returns-in-Ok-clause-time
returns-in-Ok-clause-time c = λ honest. of_honest c.args.self.now honest

pub returns-in-Ok-clause-syncs : goal.returns-in-Ok-clause-syncs
returns-in-Ok-clause-syncs c = λ honest. of_honest c.args.self.now honest

pub returns-in-Err-clause-time : goal.returns-in-Err-clause-time
returns-in-Err-clause-time c = λ honest. of_honest c.args.self.now honest

pub returns-in-Err-clause-syncs : goal.returns-in-Err-clause-syncs
returns-in-Err-clause-syncs c = λ honest. of_honest c.args.self.now honest

pub returns-in-Ok-clause-synced : goal.returns-in-Ok-clause-synced
returns-in-Ok-clause-synced c = λ honest. of_honest c.args.self.now honest

pub returns-in_default-clause-time : goal.returns-in_default-clause-time
returns-in_default-clause-time c = λ honest. of_honest c.args.self.now honest

pub returns-in_default-clause-syncs : goal.returns-in_default-clause-syncs
returns-in_default-clause-syncs c = λ honest. of_honest c.args.self.now honest

pub returns-in_default-clause-synced : goal.returns-in_default-clause-synced
returns-in_default-clause-synced c = λ honest. of_honest c.args.self.now honest

pub returns-in-Err-clause-honesty : goal.returns-in-Err-clause-honesty
returns-in-Err-clause-honesty c = as_honest _ _

pub returns-in-Err-clause-left : goal.returns-in-Err-clause-left
returns-in-Err-clause-left c = λ honest. of_honest c.args.self.now honest

pub returns-in-Err-clause-unsynced : goal.returns-in-Err-clause-unsynced
returns-in-Err-clause-unsynced c = λ honest. of_honest c.args.self.now honest
