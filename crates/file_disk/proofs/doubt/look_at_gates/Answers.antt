use Rattle.file_disk.specs.declared.doubt.Doubt.TheVariants.{SyncFailed}
use Rattle.file_disk.proofs.BeginLemmas.{not_unfinished}
use Rattle.file_disk.proofs.DoubtLemmas.{gates_in_doubt, read_in_doubt}
use Rattle.file_disk.proofs.RestedLemmas.{read_all_of}
use Rattle.file_disk.proofs.doubt.look_at_gates.Goals as goal

pub returns-in_default-clause-read : goal.returns-in_default-clause-read
returns-in_default-clause-read g c =
    read_all_of g.F.RawFile.state g.F.RawFile.passed_over g.F.RawFile.unsynced _ _ c.last_gates.ensures.reads

pub returns-in_default-found-clause-read : goal.returns-in_default-found-clause-read
returns-in_default-found-clause-read g c =
    read_all_of g.F.RawFile.state g.F.RawFile.passed_over g.F.RawFile.unsynced _ _ c.last_gates.ensures.reads

pub returns-in_default-doubt_of-clause-read : goal.returns-in_default-doubt_of-clause-read
returns-in_default-doubt_of-clause-read g c =
    read_all_of g.F.RawFile.state g.F.RawFile.passed_over g.F.RawFile.unsynced _ _ c.last_gates.ensures.reads

pub returns-clause-read : goal.returns-clause-read
returns-clause-read g c =
    read_all_of g.F.RawFile.state g.F.RawFile.passed_over g.F.RawFile.unsynced _ _ c.last_gates.ensures.reads

pub returns-in_default-found-clause-found : goal.returns-in_default-found-clause-found
returns-in_default-found-clause-found g c = λ honest sized so well.
    let answer = rw c.in_default-found.is at c.in-Ok.ensures.answer in
    let read = read_all_of g.F.RawFile.state g.F.RawFile.passed_over g.F.RawFile.unsynced c.args.looked.now
    c.last_gates.new.disk c.last_gates.ensures.reads in (
      λ place passed. well.none (answer.1 honest)
          (not_unfinished c.args.begins (g.F.RawFile.state c.args.looked.now.file).seen so c.requires) place
          (read.rested.reaches honest place passed),
      λ place written. c.apart.ensures place,
    )

pub returns-clause-found : goal.returns-clause-found
returns-clause-found g c = λ honest sized so well.
    let answer = rw c.in-Some.is at c.in-Ok.ensures.answer in
    let side = answer.1 honest in
    let old = c.args.looked.now.file in
    let new = c.last_gates.new.disk.file in
    let seen = (g.F.RawFile.state c.args.looked.now.file).seen in
    let written = c.in-Some-doubt_of.written in
    let read = read_all_of g.F.RawFile.state g.F.RawFile.passed_over g.F.RawFile.unsynced c.args.looked.now
    c.last_gates.new.disk c.last_gates.ensures.reads in
    let before = gates_in_doubt seen (g.F.RawFile.passed_over old) (g.F.RawFile.unsynced old) well
    (g.met.F.RawFile.within old honest) side.0 side.1 side.2 c.in-Some.gates.last c.in-Some.gates.end c.args.bytes
    side.3 side.4 sized written c.in-Some-doubt_of.ensures.gates c.args.begins so c.in-Some-doubt_of.ensures.start
    c.requires in
    read_in_doubt seen (g.F.RawFile.state new).seen (g.F.RawFile.passed_over old) (g.F.RawFile.passed_over new)
    (g.F.RawFile.unsynced old) (g.F.RawFile.unsynced new) (read.rested.reaches honest) (read.adds_none honest)
    SyncFailed written (read.rested.rests honest).seen before
