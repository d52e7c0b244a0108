use Rattle.std.proofs.Common.{◌≡◌, ◌+◌, ◌++◌, ◌∙◌, subst, ap, refl, ℕ, length, drop, vec_len, arith}
use Rattle.std.proofs.lemmas.List.{length-set}
use Rattle.library.specs.Inner.Ending.{HaveEnded}
use Rattle.library.proofs.LoopLemmas.{all_left, ended_on, ends_begin, left_on}
use Rattle.library.proofs.finishing.end_drives.Goals as goal

pub loop-bay-init : goal.loop-bay-init
loop-bay-init g c =
    let long : length c.args.bays.items ≡ vec_len c.args.bays = omega (arith, c.args.bays.ok) in
    record {
      ended =
          ends_begin g.D.Disk.state c.args.bays.items c.args.row.now c.args.gathering.now.bays (vec_len c.args.bays)
          (omega (arith, long)) (omega (arith, long, c.requires.all, c.known.ensures)) c.requires.none;
      left = all_left c.args.bays.items (vec_len c.args.bays) (omega (arith, long));
      short = omega (arith, long, c.requires.all);
      long = c.known.ensures;
      total = refl;
      hosts = refl;
    }

pub loop-bay-preserved : goal.loop-bay-preserved
loop-bay-preserved g c =
    let inv = c.loop-bay.invariant in
    let k = vec_len c.pop.new.self in
    let next : k + 1 ≡ vec_len c.loop-bay.bays = c.in-Some.ensures.cases in
    let long : length c.pop.new.self.items ≡ k = omega (arith, c.pop.new.self.ok) in
    let is = inv.left ∙ ap (λ xs. xs ++ drop (vec_len c.loop-bay.bays) c.args.bays.items) c.in-Some.ensures.items in
    let one = c.end_drive-bay.ensures in
    record {
      ended =
          ended_on g.D.Disk.state c.args.bays.items c.pop.new.self.items c.in-Some.bay c.loop-bay.row c.put.new.self k
          (vec_len c.loop-bay.bays) c.len.result c.end_drive-bay.result.bay c.loop-bay.gathering.bays
          c.end_drive-bay.new.gathering.bays c.end_drive-bay.result.written c.loop-bay.written c.worse-written.result
          is long next c.len.ensures inv.short inv.long c.put.ensures c.worse-written.ensures one.there one.shares
          one.changes one.left one.ok one.err inv.ended;
      left = left_on c.args.bays.items c.pop.new.self.items c.in-Some.bay
          (drop (vec_len c.loop-bay.bays) c.args.bays.items) k is long;
      short = omega (arith, inv.short, next);
      long = ap length c.put.ensures ∙ length-set c.loop-bay.row c.len.result c.end_drive-bay.result.bay ∙ inv.long;
      total = one.hosts.0 ∙ inv.total;
      hosts = one.hosts.1 ∙ inv.hosts;
    }

pub returns-clause-ended : goal.returns-clause-ended
returns-clause-ended g c =
    let none : vec_len c.loop-bay.bays ≡ 0 = (rw c.in_default.is at c.pop.ensures.cases).0 in
    subst (λ (n : ℕ). HaveEnded g.D.Disk.state (drop n c.args.bays.items) (drop n c.loop-bay.row)
    c.loop-bay.gathering.bays c.loop-bay.written) none c.loop-bay.invariant.ended
