use Rattle.std.proofs.Common.{◌≡◌, ℕ, Bool, List, [], subst, sym, ap, ◌∙◌, arith}
use Rattle.std.specs.Prelude.{slice_index_or}
use Rattle.std.proofs.lemmas.List.{get_or_default}
use Rattle.gate_journal.specs.Inner.Pieces.{TakesNext}
use Rattle.gate_journal.specs.Decoding.{TakesPiece}
use Rattle.gate_journal.specs.Reads.{reads_then}
use Rattle.gate_journal.proofs.PieceLemmas.{bad_taken, next_moves}
use Rattle.gate_journal.proofs.Walks.{unwritten_then}
use Rattle.gate_journal.proofs.pieces.decode_body.Goals as goal

pub returns-then-not-branch-clause-decodes : goal.returns-then-not-branch-clause-decodes
returns-then-not-branch-clause-decodes g c =
    let inv = c.loop-so_far.invariant in
    let journal = c.args.journal.now in
    let mid = c.loop-so_far.journal in
    let frame = c.args.frame in
    let here = c.body_at-at.result in
    let extent = slice_index_or journal.extents frame (0, 0) in
    let body = slice_index_or journal.bodies frame [] in
    let honest = (g.D.Disk.state journal.disk).honest in
    let here_is : here ≡ extent =
    c.body_at-at.ensures.value ∙ get_or_default journal.extents frame here (0, 0) c.requires.frame in
    bad_taken g.T.Decodes.has_read g.T.Decodes.refuses g.T.Decodes.is_within c.args.decoder.now c.loop-so_far.decoder
    c.take_next.new.decoder extent honest body
    (λ h. let there = c.body_at-at.ensures.body h in omega (arith, there.sized, ap (λ (e : ℕ × ℕ). e.1) here_is))
    c.in_ok-take_next.field-0 c.loop-so_far.so_far c.take_next.new.so_far c.if-not-branch.true inv.within
    (next_moves g.T.Decodes.has_read g.T.Decodes.refuses g.T.Decodes.is_within c.in_ok-take_next.field-0
    c.loop-so_far.decoder c.take_next.new.decoder c.loop-so_far.so_far c.take_next.new.so_far
    (slice_index_or mid.extents frame (0, 0)) extent (g.D.Disk.state mid.disk).honest honest
    (slice_index_or mid.bodies frame []) body
    (ap (λ (e : List (ℕ × ℕ)). slice_index_or e frame (0, 0)) inv.extents) inv.keeps.stays_honest
    (λ h. ap (λ (b : List (List ℕ)). slice_index_or b frame []) (sym (inv.bodies h)))
    c.in_ok-take_next.ensures.takes)

pub returns-in_err-take_next-clause-reads : goal.returns-in_err-take_next-clause-reads
returns-in_err-take_next-clause-reads g c =
    reads_then g.D.Disk.effect _ _ _ c.loop-so_far.invariant.reads c.take_next.ensures.reads

pub returns-then-not-branch-clause-reads : goal.returns-then-not-branch-clause-reads
returns-then-not-branch-clause-reads g c =
    reads_then g.D.Disk.effect _ _ _ c.loop-so_far.invariant.reads c.take_next.ensures.reads

pub loop-so_far-preserved : goal.loop-so_far-preserved
loop-so_far-preserved g c =
    let inv = c.loop-so_far.invariant in
    let journal = c.args.journal.now in
    let mid = c.loop-so_far.journal in
    let frame = c.args.frame in
    let extent = slice_index_or journal.extents frame (0, 0) in
    let body = slice_index_or journal.bodies frame [] in
    let d0 = g.D.Disk.state journal.disk in
    let d1 = g.D.Disk.state mid.disk in
    let d2 = g.D.Disk.state c.take_next.new.journal.disk in
    let next = c.take_next.ensures in
    let moved : TakesNext g.T.Decodes.has_read g.T.Decodes.refuses g.T.Decodes.is_within c.in_ok-take_next.field-0
    c.loop-so_far.decoder c.take_next.new.decoder c.loop-so_far.so_far c.take_next.new.so_far extent d0.honest body =
    next_moves g.T.Decodes.has_read g.T.Decodes.refuses g.T.Decodes.is_within c.in_ok-take_next.field-0
    c.loop-so_far.decoder c.take_next.new.decoder c.loop-so_far.so_far c.take_next.new.so_far
    (slice_index_or mid.extents frame (0, 0)) extent d1.honest d0.honest (slice_index_or mid.bodies frame []) body
    (ap (λ (e : List (ℕ × ℕ)). slice_index_or e frame (0, 0)) inv.extents) inv.keeps.stays_honest
    (λ h. ap (λ (b : List (List ℕ)). slice_index_or b frame []) (sym (inv.bodies h))) c.in_ok-take_next.ensures.takes in
    record {
      fine = c.in_ok-take_next.ensures.ok.0;
      front = next.same.1 ∙ inv.front;
      extents = next.same.0 ∙ inv.extents;
      reserved = next.same.2 ∙ inv.reserved;
      room = omega (arith, inv.room, c.take_next.auto.buffer);
      keeps = record {
        stays_honest = λ h. next.disk.stays_honest (inv.keeps.stays_honest h);
        was_honest = λ h. inv.keeps.was_honest (next.disk.was_honest h);
        counted = omega (arith, inv.keeps.counted, next.disk.counted);
      };
      none_failed = c.in_ok-take_next.ensures.ok.1 ∙ inv.none_failed;
      unwritten = λ h. unwritten_then d0 d1 d2 (inv.unwritten h) (next.unwritten (inv.keeps.stays_honest h)).0;
      reads = reads_then g.D.Disk.effect _ _ _ inv.reads next.reads;
      bodies = λ h. (next.unwritten (inv.keeps.stays_honest h)).1 ∙ inv.bodies h;
      so_far = moved.is_so_far;
      within =
          subst
          (λ (b : Bool).
          TakesPiece g.T.Decodes.has_read g.T.Decodes.refuses g.T.Decodes.is_within b c.args.decoder.now
          c.take_next.new.decoder extent.0 c.take_next.new.so_far.bytes.bytes)
          c.if-not-branch.false (moved.takes c.args.decoder.now inv.within);
    }
