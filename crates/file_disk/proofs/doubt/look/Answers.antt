use Rattle.std.proofs.Common.{ℕ, List, length, sym, ap, subst, ◌∙◌}
use Rattle.file_disk.specs.Inner.Doubts.{BeginsSo}
use Rattle.file_disk.specs.Opening.{IsLeftWell}
use Rattle.file_disk.proofs.DoubtLemmas.{first_in_doubt, well_still}
use Rattle.file_disk.proofs.doubt.look.Goals as goal

pub returns-in-Unfinished-clause-found : goal.returns-in-Unfinished-clause-found
returns-in-Unfinished-clause-found g c = λ honest sized well.
    let read = c.beginning_of.ensures.read in
    let old = c.args.looked.now.file in
    let new = c.beginning_of.new.looked.file in
    first_in_doubt (g.F.RawFile.state old).seen (g.F.RawFile.passed_over old) (g.F.RawFile.passed_over new)
    (g.F.RawFile.unsynced old) (g.F.RawFile.unsynced new) (g.met.F.RawFile.within old honest)
    (read.rested.reaches honest) (read.adds_none honest) c.args.bytes sized c.first.result c.first.ensures

pub returns-in_default-clause-found : goal.returns-in_default-clause-found
returns-in_default-clause-found g c = λ honest sized well.
    let read = c.beginning_of.ensures.read in
    let old = c.args.looked.now.file in
    let new = c.beginning_of.new.looked.file in
    let same = (read.rested.rests honest).seen in
    let so = subst (λ (l : List ℕ). BeginsSo c.in_ok-begins.begins l) (sym same)
    (c.in_ok-begins.ensures.begins honest) in
    let still : IsLeftWell (g.F.RawFile.state new).seen (g.F.RawFile.passed_over new) (g.F.RawFile.unsynced new) =
    well_still (g.F.RawFile.state old).seen (g.F.RawFile.state new).seen (g.F.RawFile.passed_over old)
    (g.F.RawFile.passed_over new) (g.F.RawFile.unsynced old) (g.F.RawFile.unsynced new) (read.rested.reaches honest)
    (read.adds_none honest) same well in
    c.look_at_gates.ensures.found (read.rested.honesty.stays_honest honest) (sized ∙ ap length (sym same)) so still
