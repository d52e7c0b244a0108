use Rattle.std.proofs.Common.{◌≡◌, ◌+◌, ◌-◌, ◌≤◌, ◌++◌, ℕ, List, Bool, length, take, drop, true, false, ap, ◌∙◌, subst, arith, append_assoc, length-append}
use Rattle.std.proofs.lemmas.List.{length-drop, length-take-le, take-append-drop}
use Rattle.cartridge.specs.Inner.Reading.{EntersAt, IsBodyWalked, Walks}
use Rattle.cartridge.proofs.PieceLemmas.{found_inside, part_last, part_next, rest_is, walked_bad, walked_found, walked_more, walks_bad}
use Rattle.cartridge.proofs.WalkingLemmas.{has_block}
use Rattle.cartridge.proofs.walking.walk_piece.Goals as goal

-- how many bytes are left of a piece
rest_long : (piece : List ℕ) (from : ℕ) → length (take (length piece - from) (drop from piece)) ≡ length piece - from
rest_long piece from = ap (λ (l : List ℕ). length l) (rest_is piece from) ∙ length-drop from piece

-- the bytes so far, those of a piece and the next ones of it are no more than those so far and the piece
no_longer : (so_far piece : List ℕ) (from taken : ℕ) → from ≤ length piece → taken ≤ length piece - from
    → length ((so_far ++ take from piece) ++ take taken (take (length piece - from) (drop from piece)))
    ≤ length so_far + length piece
no_longer so_far piece from taken within inside =
    let rest = take (length piece - from) (drop from piece) in
    omega (
      arith,
      within,
      inside,
      length-append so_far (take from piece),
      length-take-le from piece within,
      length-append (so_far ++ take from piece) (take taken rest),
      length-take-le taken rest (omega (arith, inside, rest_long piece from)),
    )

pub feed-requires : goal.feed-requires
feed-requires c =
    let from = c.loop-from.from in
    let piece = c.args.piece.now in
    let so_far = c.requires.1 in
    let had = c.loop-from.invariant.walked c.requires.0 so_far c.requires.2 in
    record {
      fits = omega (
        arith,
        had.after.stands.at_is,
        length-append so_far (take from piece),
        length-take-le from piece c.loop-from.invariant.within,
        c.loop-from.invariant.within,
        rest_long piece from,
        c.requires.3,
      );
    }

pub overflow_add-place : goal.overflow_add-place
overflow_add-place c =
    let from = c.loop-from.from in
    let piece = c.args.piece.now in
    let so_far = c.requires.1 in
    let taken = c.in-Found.taken in
    let had = c.loop-from.invariant.walked c.requires.0 so_far c.requires.2 in
    let before = so_far ++ take from piece in
    let bytes = take taken (take (length piece - from) (drop from piece)) in
    let inside : taken ≤ length piece - from = omega (arith, c.in-Found.ensures.within, rest_long piece from) in
    omega (
      arith,
      found_inside c.requires.0 c.args.place before bytes c.loop-from.index c.loop-from.reader c.feed.new.self had
          c.in-Found.item c.in-Found.at (c.in-Found.ensures.feeds before had.changes had.after),
      no_longer so_far piece from taken c.loop-from.invariant.within inside,
      c.requires.3,
    )

pub enter-requires-clause-sized : goal.enter-requires-clause-sized
enter-requires-clause-sized c =
    let from = c.loop-from.from in
    let piece = c.args.piece.now in
    let so_far = c.requires.1 in
    let had = c.loop-from.invariant.walked c.requires.0 so_far c.requires.2 in
    let before = so_far ++ take from piece in
    let bytes = take c.in-Found.taken (take (length piece - from) (drop from piece)) in
    has_block c.in-Found.item (drop c.in-Found.at (before ++ bytes))
    (c.in-Found.ensures.feeds before had.changes had.after).front

pub enter-requires-clause-fits : goal.enter-requires-clause-fits
enter-requires-clause-fits c =
    let from = c.loop-from.from in
    let piece = c.args.piece.now in
    let so_far = c.requires.1 in
    let taken = c.in-Found.taken in
    let had = c.loop-from.invariant.walked c.requires.0 so_far c.requires.2 in
    let before = so_far ++ take from piece in
    let bytes = take taken (take (length piece - from) (drop from piece)) in
    let inside : taken ≤ length piece - from = omega (arith, c.in-Found.ensures.within, rest_long piece from) in
    omega (
      arith,
      found_inside c.requires.0 c.args.place before bytes c.loop-from.index c.loop-from.reader c.feed.new.self had
          c.in-Found.item c.in-Found.at (c.in-Found.ensures.feeds before had.changes had.after),
      no_longer so_far piece from taken c.loop-from.invariant.within inside,
      c.requires.3,
    )

pub returns-then-not-branch : goal.returns-then-not-branch
returns-then-not-branch c = λ start so_far walked.
    let from = c.loop-from.from in
    let piece = c.args.piece.now in
    let taken = c.in-Found.taken in
    let had = c.loop-from.invariant.walked start so_far walked in
    let before = so_far ++ take from piece in
    let bytes = take taken (take (length piece - from) (drop from piece)) in
    let index' = c.enter.new.index in
    let reader' = c.feed.new.self in
    let enters = subst
    (λ (b : Bool). EntersAt b c.in-Found.item (c.args.place + c.in-Found.at) c.loop-from.index index')
    c.if-not-branch.true c.in_ok-enter-in-Found.ensures in
    let bad = walked_found start c.args.place before bytes c.loop-from.index c.loop-from.reader reader' had
    c.in-Found.item c.in-Found.at (c.in-Found.ensures.feeds before had.changes had.after) index' false enters in
    walks_bad start c.args.place (so_far ++ take (from + taken) piece) (drop (from + taken) piece) (so_far ++ piece)
    index' index' reader' reader'
    (append_assoc so_far (take (from + taken) piece) (drop (from + taken) piece)
    ∙ ap (λ (l : List ℕ). so_far ++ l) (take-append-drop (from + taken) piece))
    (subst (λ (l : List ℕ). Walks false start c.args.place l index' reader') (part_next so_far piece from taken) bad)

pub loop-from-preserved : goal.loop-from-preserved
loop-from-preserved c =
    let from = c.loop-from.from in
    let piece = c.args.piece.now in
    let taken = c.in-Found.taken in
    let index' = c.enter.new.index in
    let reader' = c.feed.new.self in
    let enters = subst
    (λ (b : Bool). EntersAt b c.in-Found.item (c.args.place + c.in-Found.at) c.loop-from.index index')
    c.if-not-branch.false c.in_ok-enter-in-Found.ensures in
    record {
      within =
          omega (arith, c.in-Found.ensures.within, rest_long piece from, c.loop-from.invariant.within);
      walked = λ start so_far walked.
          let had = c.loop-from.invariant.walked start so_far walked in
          let before = so_far ++ take from piece in
          let bytes = take taken (take (length piece - from) (drop from piece)) in
          subst (λ (l : List ℕ). IsBodyWalked start c.args.place l index' reader')
          (part_next so_far piece from taken)
          (walked_found start c.args.place before bytes c.loop-from.index c.loop-from.reader reader' had c.in-Found.item
          c.in-Found.at (c.in-Found.ensures.feeds before had.changes had.after) index' true enters);
    }

pub returns-in-More : goal.returns-in-More
returns-in-More c = λ start so_far walked.
    let from = c.loop-from.from in
    let piece = c.args.piece.now in
    let had = c.loop-from.invariant.walked start so_far walked in
    let before = so_far ++ take from piece in
    subst (λ (l : List ℕ). IsBodyWalked start c.args.place l c.loop-from.index c.feed.new.self)
    (part_last so_far piece from)
    (walked_more start c.args.place before (take (length piece - from) (drop from piece)) c.loop-from.index
    c.loop-from.reader c.feed.new.self had (c.in-More.ensures.feeds before had.changes had.after))

pub returns-in-Bad : goal.returns-in-Bad
returns-in-Bad c = λ start so_far walked.
    let from = c.loop-from.from in
    let piece = c.args.piece.now in
    let had = c.loop-from.invariant.walked start so_far walked in
    let before = so_far ++ take from piece in
    subst (λ (l : List ℕ). Walks false start c.args.place l c.loop-from.index c.feed.new.self)
    (part_last so_far piece from)
    (walked_bad start c.args.place before (take (length piece - from) (drop from piece)) c.loop-from.index
    c.loop-from.reader c.feed.new.self had c.in-Bad.at (c.in-Bad.ensures.feeds before had.changes had.after).1)
