use Rattle.std.proofs.Common.{◌++◌, ℕ, List, drop, arith, length-append}
use Rattle.std.specs.Prelude.{replicate}
use Rattle.std.proofs.lemmas.List.{length-replicate}
use Rattle.std.proofs.lemmas.Result.{IfOk-weaker}
use Rattle.cartridge.proofs.PieceLemmas.{found_inside, walked_found, walked_more}
use Rattle.cartridge.proofs.WalkingLemmas.{has_block}
use Rattle.cartridge.proofs.walking.walk_over.Goals as goal

pub overflow_add-place : goal.overflow_add-place
overflow_add-place c =
    let so_far = c.requires.may.1 in
    let had = c.requires.may.2 in
    let zeros : List ℕ = replicate c.args.count 0 in
    let long = length-replicate {A = ℕ} c.args.count 0 in
    omega (
      arith,
      found_inside c.requires.may.0 c.args.place so_far zeros c.args.index.now c.args.reader.now c.pass.new.self had
          c.in-Some.field-0.item c.in-Some.field-0.at
          (c.in-Some.ensures.passes so_far zeros had.changes long had.after),
      length-append so_far zeros,
      long,
      c.requires.may.3,
    )

pub enter-requires-clause-sized : goal.enter-requires-clause-sized
enter-requires-clause-sized c =
    let so_far = c.requires.may.1 in
    let had = c.requires.may.2 in
    let zeros : List ℕ = replicate c.args.count 0 in
    has_block c.in-Some.field-0.item (drop c.in-Some.field-0.at (so_far ++ zeros))
    (c.in-Some.ensures.passes so_far zeros had.changes (length-replicate {A = ℕ} c.args.count 0) had.after).front

pub enter-requires-clause-fits : goal.enter-requires-clause-fits
enter-requires-clause-fits c =
    let so_far = c.requires.may.1 in
    let had = c.requires.may.2 in
    let zeros : List ℕ = replicate c.args.count 0 in
    let long = length-replicate {A = ℕ} c.args.count 0 in
    omega (
      arith,
      found_inside c.requires.may.0 c.args.place so_far zeros c.args.index.now c.args.reader.now c.pass.new.self had
          c.in-Some.field-0.item c.in-Some.field-0.at
          (c.in-Some.ensures.passes so_far zeros had.changes long had.after),
      length-append so_far zeros,
      long,
      c.requires.may.3,
    )

pub returns-in-Some : goal.returns-in-Some
returns-in-Some c =
    IfOk-weaker c.enter.result _ _
    (λ good enters start so_far bytes sized had.
    walked_found start c.args.place so_far bytes c.args.index.now c.args.reader.now c.pass.new.self had
    c.in-Some.field-0.item c.in-Some.field-0.at (c.in-Some.ensures.passes so_far bytes had.changes sized had.after)
    c.enter.new.index good enters)
    c.enter.ensures

pub returns-in-None : goal.returns-in-None
returns-in-None c = λ start so_far bytes sized had.
    walked_more start c.args.place so_far bytes c.args.index.now c.args.reader.now c.pass.new.self had
    (c.in-None.ensures.passes so_far bytes had.changes sized had.after)
