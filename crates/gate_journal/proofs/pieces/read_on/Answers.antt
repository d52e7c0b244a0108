use Rattle.std.proofs.Common.{◌≡◌, ◌+◌, ◌≤◌, ◌++◌, ℕ, List, [], length, drop, take, ap, refl, ◌∙◌, arith}
use Rattle.std.specs.Prelude.{slice_index_or, slice_range}
use Rattle.std.proofs.lemmas.List.{get_or_default, length-take-le, take_at}
use Rattle.gate_journal.specs.Reads.{reads_one}
use Rattle.gate_journal.proofs.PieceLemmas.{next_taken, read_next}
use Rattle.gate_journal.proofs.pieces.read_on.Goals as goal

pub returns-clause-takes : goal.returns-clause-takes
returns-clause-takes g c =
    let journal = c.args.journal.now in
    let frame = c.args.frame in
    let body = slice_index_or journal.bodies frame [] in
    let before = c.args.so_far.now in
    let from = before.from in
    let count = c.min-count.result in
    let here = c.body_at-at.result in
    let extent = slice_index_or journal.extents frame (0, 0) in
    let here_is : here ≡ extent =
    c.body_at-at.ensures.value ∙ get_or_default journal.extents frame here (0, 0) c.requires.frame in
    let size_is : here.1 ≡ extent.1 = ap (λ (e : ℕ × ℕ). e.1) here_is in
    let place_is : here.0 ≡ extent.0 = ap (λ (e : ℕ × ℕ). e.0) here_is in
    let inside : from + count ≤ extent.1 =
    omega (arith, c.min-count.ensures, c.min-most.ensures, size_is, c.requires.more) in
    let some : 1 ≤ count = omega (
      arith,
      c.min-count.ensures,
      c.min-most.ensures,
      size_is,
      c.requires.more,
      c.requires.so_far.some,
      c.requires.room,
    ) in
    let short : count ≤ length c.args.buffer.now =
    omega (arith, c.min-count.ensures) in
    let buffer = c.args.buffer.now in
    let read = c.read_body.new.buffer in
    let piece = take count (read ++ drop count buffer) in
    let long : length read ≡ count = c.read_body.auto.buffer ∙ length-take-le count buffer short in
    let piece_is : piece ≡ read = take_at read (drop count buffer) count long in
    next_taken g.T.Decodes.has_read g.T.Decodes.refuses g.T.Decodes.is_within c.args.decoder.now c.args.decoder.now
    c.feed.new.self extent (g.D.Disk.state journal.disk).honest body
    (λ h. let there = c.body_at-at.ensures.body h in omega (arith, there.sized, size_is))
    c.in_ok-good.good here before
    (record { from = from + count; wide = 65536; bytes = c.with.result }) count piece here_is c.requires.so_far
    some inside (ap (λ (l : List ℕ). length l) piece_is ∙ long)
    (λ h. read_next body from count (let there = c.body_at-at.ensures.body h in omega (
      arith,
      inside,
      there.sized,
      size_is,
    ))
    before.bytes.bytes (c.requires.so_far.real h) piece
    (piece_is
    ∙ c.in-Ok.ensures.bytes h frame from c.requires.frame (omega (arith, place_is)) (omega (arith, inside, long))
    ∙ ap (λ (n : ℕ). slice_range body from (from + n)) long))
    refl (omega arith) (omega arith) c.with.ensures
    (λ start within. c.in_ok-good.ensures start before.bytes.bytes within)

pub returns-in-Err-clause-reads : goal.returns-in-Err-clause-reads
returns-in-Err-clause-reads g c =
    let buffer = c.args.buffer.now in
    let count = c.min-count.result in
    let long : length (take count buffer) ≡ count =
    length-take-le count buffer (omega (arith, c.min-count.ensures)) in
    let few : length (take count buffer) ≤ 65536 =
    omega (arith, long, c.min-count.ensures, c.min-most.ensures, c.requires.so_far.short) in
    reads_one g.D.Disk.effect _ (length (take count buffer)) _ _ few (c.read_body.ensures.reads c.requires.fine)

pub returns-in_err-good-clause-reads : goal.returns-in_err-good-clause-reads
returns-in_err-good-clause-reads g c =
    let buffer = c.args.buffer.now in
    let count = c.min-count.result in
    let long : length (take count buffer) ≡ count =
    length-take-le count buffer (omega (arith, c.min-count.ensures)) in
    let few : length (take count buffer) ≤ 65536 =
    omega (arith, long, c.min-count.ensures, c.min-most.ensures, c.requires.so_far.short) in
    reads_one g.D.Disk.effect _ (length (take count buffer)) _ _ few (c.read_body.ensures.reads c.requires.fine)

pub returns-clause-reads : goal.returns-clause-reads
returns-clause-reads g c =
    let buffer = c.args.buffer.now in
    let count = c.min-count.result in
    let long : length (take count buffer) ≡ count =
    length-take-le count buffer (omega (arith, c.min-count.ensures)) in
    let few : length (take count buffer) ≤ 65536 =
    omega (arith, long, c.min-count.ensures, c.min-most.ensures, c.requires.so_far.short) in
    reads_one g.D.Disk.effect _ (length (take count buffer)) _ _ few (c.read_body.ensures.reads c.requires.fine)
