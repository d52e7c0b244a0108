use Rattle.std.proofs.Common.{◌+◌, ◌≤◌, ◌++◌, ap, arith, drop, length, length-append, rules, take}
use Rattle.std.proofs.lemmas.List.{length-drop, length-take-le}
use Rattle.file_disk.proofs.DoubtLemmas.{wrote_in_doubt}
use Rattle.file_disk.proofs.RestedLemmas.{same_behind}
use Rattle.file_disk.proofs.TransferLemmas.{not_written}
use Rattle.file_disk.proofs.disk.DiskOverDisk.write_at.Goals as goal

pub returns-then-not-is_measured-clause-writes : goal.returns-then-not-is_measured-clause-writes
returns-then-not-is_measured-clause-writes g c = λ honest.
    let same = (rw c.is_measured.ensures.same at c.refuse.ensures.same) honest in
    not_written _ _ (record { seen = same.seen; crash = same.crash }) c.refuse.result c.args.at c.args.bytes.now

pub returns-in_default-clause-writes : goal.returns-in_default-clause-writes
returns-in_default-clause-writes g c = λ honest.
    let rested = rw c.is_measured.ensures.same at c.begin.ensures.rested in
    let after = c.refuse-in_default.ensures.same (rested.honesty.stays_honest honest) in
    let same = same_behind _ _ _ (rested.rests honest) after in
    not_written _ _ (record { seen = same.seen; crash = same.crash }) c.refuse-in_default.result c.args.at
    c.args.bytes.now

pub invariant_of-self : goal.invariant_of-self
invariant_of-self g c = λ honest.
    let was = c.write_all.ensures.honesty.was_honest honest in
    let old = c.self.inside.looked.file in
    let new = c.write_all.new.file in
    let rested = rw (← c.self.view_is) at c.begin.ensures.rested in
    let seen = (g.F.RawFile.state c.self.inside.looked.file).seen in
    let first = rw (← c.self.view_is) at (rw c.is_measured.ensures.same at c.begin.ensures.rested) in
    let start = first.honesty.was_honest was in
    let inside : c.args.at ≤ length (g.F.RawFile.state c.self.inside.looked.file).seen
    = omega (arith, c.requires start, ap length (first.rests start).seen) in
    let known = (rw (← c.self.view_is) at c.in-Some.ensures.known) (rested.honesty.was_honest was) in (
      (c.self.invariant was).0,
      omega (
        arith,
        c.max-self-inside.ensures,
        (c.self.invariant was).1,
        inside,
        ap length (c.in-Ok.ensures.written was),
        length-append (take c.args.at seen ++ c.args.bytes.now) (drop (c.args.at + length c.args.bytes.now) seen),
        length-append (take c.args.at seen) c.args.bytes.now,
        length-take-le c.args.at seen inside,
        length-drop (c.args.at + length c.args.bytes.now) seen,
      ),
      wrote_in_doubt (g.F.RawFile.state old).seen (g.F.RawFile.state new).seen (g.F.RawFile.passed_over old)
          (g.F.RawFile.passed_over new) (g.F.RawFile.unsynced old) (g.F.RawFile.unsynced new)
          (c.write_all.ensures.reaches was) c.in-Some.doubt c.in-Some.written c.noted-self-inside.result c.args.at _
          known.0 known.1 (c.write_all.ensures.unsynced was) c.noted-self-inside.ensures.covers,
    )

pub invariant_of-self-in-Err : goal.invariant_of-self-in-Err
invariant_of-self-in-Err g c = λ honest.
    let was = c.write_all.ensures.honesty.was_honest honest in
    let old = c.self.inside.looked.file in
    let new = c.write_all.new.file in
    let rested = rw (← c.self.view_is) at c.begin.ensures.rested in
    let known = (rw (← c.self.view_is) at c.in-Some.ensures.known) (rested.honesty.was_honest was) in (
      search rules,
      search rules,
      wrote_in_doubt (g.F.RawFile.state old).seen (g.F.RawFile.state new).seen (g.F.RawFile.passed_over old)
          (g.F.RawFile.passed_over new) (g.F.RawFile.unsynced old) (g.F.RawFile.unsynced new)
          (c.write_all.ensures.reaches was) c.in-Some.doubt c.in-Some.written c.noted-self-inside.result c.args.at _
          known.0 known.1 (c.write_all.ensures.unsynced was) c.noted-self-inside.ensures.covers,
    )
