use Rattle.file_disk.proofs.DoubtLemmas.{read_in_doubt}
use Rattle.file_disk.proofs.doubt.looked_at.Goals as goal

pub returns-in-None-clause-known : goal.returns-in-None-clause-known
returns-in-None-clause-known g c = λ honest sized is.
    let old = c.args.looked.now.file in
    let new = c.look.new.looked.file in
    let read = c.look.ensures.read in
    read_in_doubt (g.F.RawFile.state old).seen (g.F.RawFile.state new).seen (g.F.RawFile.passed_over old)
    (g.F.RawFile.passed_over new) (g.F.RawFile.unsynced old) (g.F.RawFile.unsynced new) (read.rested.reaches honest)
    (read.adds_none honest) c.args.doubt c.args.written (read.rested.rests honest).seen is
