use Rattle.file_disk.specs.Inner.SystemFile.{of_honest}
use Rattle.file_disk.proofs.system.SystemFileRawFile.size.Goals as goal

pub returns-in-Ok : goal.returns-in-Ok
returns-in-Ok c = λ honest. of_honest c.args.self.now honest

pub returns-in-Err : goal.returns-in-Err
returns-in-Err c = λ honest. of_honest c.args.self.now honest

pub returns-in_default : goal.returns-in_default
returns-in_default c = λ honest. of_honest c.args.self.now honest
