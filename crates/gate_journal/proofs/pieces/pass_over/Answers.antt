use Rattle.std.proofs.Common.{◌≡◌, ◌+◌, ◌≤◌, ℕ, [], drop, ap, refl, ◌∙◌, arith}
use Rattle.std.specs.Prelude.{slice_index_or}
use Rattle.std.proofs.lemmas.List.{get_or_default}
use Rattle.gate_journal.specs.Inner.Padding.{padded_to}
use Rattle.gate_journal.proofs.PieceLemmas.{next_taken, padded_long, unread_next}
use Rattle.gate_journal.proofs.pieces.pass_over.Goals as goal

pub returns-clause-takes : goal.returns-clause-takes
returns-clause-takes g c =
    let journal = c.args.journal.now in
    let frame = c.args.frame in
    let body = slice_index_or journal.bodies frame [] in
    let before = c.args.so_far.now in
    let from = before.from in
    let count = c.min-count.result in
    let here = c.body_at-at.result in
    let extent = slice_index_or journal.extents frame (0, 0) in
    let here_is : here ≡ extent =
    c.body_at-at.ensures.value ∙ get_or_default journal.extents frame here (0, 0) c.requires.frame in
    let size_is : here.1 ≡ extent.1 = ap (λ (e : ℕ × ℕ). e.1) here_is in
    let inside : from + count ≤ extent.1 = omega (arith, c.min-count.ensures, size_is, c.requires.more) in
    let some : 1 ≤ count =
    omega (arith, c.min-count.ensures, size_is, c.requires.more, c.unseen.ensures, c.requires.unseen) in
    next_taken g.T.Decodes.has_read g.T.Decodes.refuses g.T.Decodes.is_within c.args.decoder.now c.args.decoder.now
    c.pass.new.self extent (g.D.Disk.state journal.disk).honest body
    (λ h. let there = c.body_at-at.ensures.body h in omega (arith, there.sized, size_is))
    c.in_ok-good.good here before
    (record { from = from + count; wide = 4096; bytes = c.with_unread.result }) count
    (padded_to count (drop from body)) here_is c.requires.so_far some inside (padded_long count (drop from body))
    (λ h. let there = c.body_at-at.ensures.body h in
    unread_next body from count (omega (arith, inside, there.sized, size_is)) before.bytes.bytes
    (c.requires.so_far.real h))
    refl (omega arith) (omega arith) c.with_unread.ensures
    (λ start within.
    c.in_ok-good.ensures start before.bytes.bytes (padded_to count (drop from body))
    (padded_long count (drop from body)) within)
