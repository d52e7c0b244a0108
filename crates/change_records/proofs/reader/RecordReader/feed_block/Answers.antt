use Rattle.std.proofs.Common.{◌≡◌, ◌≤◌, ◌-◌, ◌+◌, ◌++◌, List, ℕ, length, take, drop, ap, subst, arith, length-drop, ◌∙◌}
use Rattle.std.proofs.lemmas.List.{length-take-le, take_all}
use Rattle.change_records.specs.Readers.{Finds, IsAfter, ReaderState}
use Rattle.change_records.proofs.ReaderLemmas.{behind_parts}
use Rattle.change_records.proofs.reader.RecordReader.feed_block.Goals as goal
use Rattle.change_records.proofs.reader.RecordReader.feed_block.Goals.{then-piece-from, else-piece-from}

pub returns-in-Some-clause-feeds : goal.returns-in-Some-clause-feeds
returns-in-Some-clause-feeds c =
    λ before changes after.
    let piece = c.args.piece.now in
    let from = c.args.from in
    let count = c.if-piece-from.count in
    let short : count ≤ length piece - from =
    elim c.if-piece-from.branch [ then-piece-from w ↦ omega arith | else-piece-from w ↦ omega arith ] in
    let long : length (take count (drop from piece)) ≡ count =
    length-take-le count (drop from piece) (omega (arith, short, length-drop from piece)) in
    subst (λ (l : List ℕ). Finds l changes c.in-Some.field-0.item c.in-Some.field-0.at c.pass.new.self)
    (behind_parts before piece from count)
    (c.in-Some.ensures.passes (before ++ take from piece) (take count (drop from piece)) changes long after)

pub returns-in-None-clause-feeds : goal.returns-in-None-clause-feeds
returns-in-None-clause-feeds c =
    λ before changes after.
    let piece = c.args.piece.now in
    let from = c.args.from in
    let count = c.if-piece-from.count in
    let less = c.in-None.ensures.none in
    let left = ap (λ (s : ReaderState). s.left) c.self.view_is in
    let all : count ≡ length piece - from =
    elim c.if-piece-from.branch [ then-piece-from w ↦ omega arith | else-piece-from w ↦ omega (arith, less, left) ] in
    let long : length (take count (drop from piece)) ≡ count =
    length-take-le count (drop from piece) (omega (arith, all, length-drop from piece)) in
    let whole : before ++ take (from + count) piece ≡ before ++ piece =
    ap (λ (l : List ℕ). before ++ l) (take_all (from + count) piece (omega (arith, all))) in
    subst (λ (l : List ℕ). IsAfter l changes c.pass.new.self) (behind_parts before piece from count ∙ whole)
    (c.in-None.ensures.passes (before ++ take from piece) (take count (drop from piece)) changes long after)
