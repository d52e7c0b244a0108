use Rattle.std.proofs.Common.{◌≡◌, ℕ, ◌+◌, ◌++◌, List, length, sym, ◌∙◌, ap, arith, rules, length-append}
use Rattle.std.proofs.lemmas.List.{append-nil}
use Rattle.tape_disk.specs.Disk.{overwritten}
use Rattle.gate_journal.proofs.LaidLemmas.{laid_on, none_laid, one_laid, overwritten_on}
use Rattle.gate_journal.proofs.Writing.{after_write}
use Rattle.gate_journal.proofs.gathering.add_part.Goals as goal

pub returns-then-block-lt-LONG-clause-any_moment : goal.returns-then-block-lt-LONG-clause-any_moment
returns-then-block-lt-LONG-clause-any_moment g c = λ h.
    none_laid c.args.at (length (c.args.bytes.now.items ++ c.args.head.now ++ c.args.block.now))
    (g.D.Disk.state c.args.disk.now) (g.met.D.Disk.is_disk c.args.disk.now h)

pub returns-in_err-write_at-clause-any_moment : goal.returns-in_err-write_at-clause-any_moment
returns-in_err-write_at-clause-any_moment g c = λ h.
    let bytes = c.args.bytes.now.items in
    let head = c.args.head.now in
    let block = c.args.block.now in
    let held = c.deref.ensures.value ∙ c.extend.ensures.bytes in
    one_laid c.args.at (length (bytes ++ head ++ block)) c.deref.result.now (g.D.Disk.state c.args.disk.now)
    (g.D.Disk.state c.write_at.new.self) (g.met.D.Disk.is_disk c.args.disk.now h) _ (c.write_at.ensures.writes h)
    (c.write_at.ensures.time h)
    (omega (
      arith,
      ap (λ (l : List ℕ). length l) held,
      length-append (bytes ++ head) block,
      length-append bytes head,
    ))

pub returns-in_err-write_at-2-clause-any_moment : goal.returns-in_err-write_at-2-clause-any_moment
returns-in_err-write_at-2-clause-any_moment g c = λ h.
    let bytes = c.args.bytes.now.items in
    let head = c.args.head.now in
    let block = c.args.block.now in
    let d0 = g.D.Disk.state c.args.disk.now in
    let d1 = g.D.Disk.state c.write_at.new.self in
    let held = c.deref.ensures.value ∙ c.extend.ensures.bytes in
    let sized = ap (λ (l : List ℕ). length l) held in
    let counted : c.len.result ≡ length c.extend.new.bytes.items = search rules in
    let longer = ap (λ (l : List ℕ). length l) c.extend.ensures.bytes in
    let h1 = c.write_at.ensures.passes.stays_honest h in
    laid_on c.args.at (length (bytes ++ head ++ block)) d0 d1 (g.met.D.Disk.is_disk c.write_at.new.self h1)
    (one_laid c.args.at (length (bytes ++ head ++ block)) c.deref.result.now d0 d1
    (g.met.D.Disk.is_disk c.args.disk.now h) _ (c.write_at.ensures.writes h) (c.write_at.ensures.time h)
    (omega (
      arith,
      sized,
      length-append (bytes ++ head) block,
      length-append bytes head,
    )))
    (g.D.Disk.state c.write_at-2.new.self) (c.args.at + c.len.result) (length block) (omega arith)
    (omega (
      arith,
      counted,
      longer,
      length-append (bytes ++ head) block,
      length-append bytes head,
    ))
    (after_write (c.args.at + c.len.result) block d1 (g.D.Disk.state c.write_at-2.new.self)
    (g.met.D.Disk.is_disk c.write_at.new.self h1) _ (c.write_at-2.ensures.writes h1) (c.write_at-2.ensures.time h1))

pub returns-clause-any_moment : goal.returns-clause-any_moment
returns-clause-any_moment g c = λ h.
    let bytes = c.args.bytes.now.items in
    let head = c.args.head.now in
    let block = c.args.block.now in
    let d0 = g.D.Disk.state c.args.disk.now in
    let d1 = g.D.Disk.state c.write_at.new.self in
    let held = c.deref.ensures.value ∙ c.extend.ensures.bytes in
    let sized = ap (λ (l : List ℕ). length l) held in
    let counted : c.len.result ≡ length c.extend.new.bytes.items = search rules in
    let longer = ap (λ (l : List ℕ). length l) c.extend.ensures.bytes in
    let h1 = c.write_at.ensures.passes.stays_honest h in
    laid_on c.args.at (length (bytes ++ head ++ block)) d0 d1 (g.met.D.Disk.is_disk c.write_at.new.self h1)
    (one_laid c.args.at (length (bytes ++ head ++ block)) c.deref.result.now d0 d1
    (g.met.D.Disk.is_disk c.args.disk.now h) _ (c.write_at.ensures.writes h) (c.write_at.ensures.time h)
    (omega (
      arith,
      sized,
      length-append (bytes ++ head) block,
      length-append bytes head,
    )))
    (g.D.Disk.state c.write_at-2.new.self) (c.args.at + c.len.result) (length block) (omega arith)
    (omega (
      arith,
      counted,
      longer,
      length-append (bytes ++ head) block,
      length-append bytes head,
    ))
    (after_write (c.args.at + c.len.result) block d1 (g.D.Disk.state c.write_at-2.new.self)
    (g.met.D.Disk.is_disk c.write_at.new.self h1) _ (c.write_at-2.ensures.writes h1) (c.write_at-2.ensures.time h1))

pub returns-clause-gathers : goal.returns-clause-gathers
returns-clause-gathers g c =
    let bytes = c.args.bytes.now.items in
    let head = c.args.head.now in
    let block = c.args.block.now in
    let all = bytes ++ head ++ block in
    let d0 = g.D.Disk.state c.args.disk.now in
    let d1 = g.D.Disk.state c.write_at.new.self in
    let ext = c.deref.result.now in
    let held = c.deref.ensures.value ∙ c.extend.ensures.bytes in
    let counted : c.len.result ≡ length c.extend.new.bytes.items = search rules in
    let longer = ap (λ (l : List ℕ). length l) c.extend.ensures.bytes in
    let there : c.args.at + c.len.result ≡ c.args.at + length ext =
    omega (arith, counted, ap (λ (l : List ℕ). length l) c.deref.ensures.value) in
    let joined : ext ++ block ≡ all = ap (λ (l : List ℕ). l ++ block) held in
    record {
      written = all;
      all = sym (append-nil all) ∙ ap (λ (l : List ℕ). all ++ l) (sym c.clear.ensures.items);
      at_is =
          omega (
            arith,
            counted,
            longer,
            length-append (bytes ++ head) block,
            length-append bytes head,
          );
      seen = λ h.
          let h1 = c.write_at.ensures.passes.stays_honest h in
          (c.in_ok-write_at-2.ensures.writes h1).written
          ∙ ap (λ (l : List ℕ). overwritten (c.args.at + c.len.result) block l)
          (c.in_ok-write_at.ensures.writes h).written
          ∙ ap (λ (p : ℕ). overwritten p block (overwritten c.args.at ext d0.seen)) there
          ∙ overwritten_on c.args.at ext block d0.seen (c.requires.place h)
          ∙ ap (λ (l : List ℕ). overwritten c.args.at l d0.seen) joined;
    }
