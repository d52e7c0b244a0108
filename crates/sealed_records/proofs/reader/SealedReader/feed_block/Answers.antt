use Rattle.std.proofs.Common.{take, arith}
use Rattle.std.proofs.lemmas.List.{length-take-le}
use Rattle.sealed_records.proofs.reader.SealedReader.feed_block.Goals as goal

pub returns-in-Some-clause-feeds : goal.returns-in-Some-clause-feeds
returns-in-Some-clause-feeds c =
    λ before laids after.
    let taken = c.min-taken.result in
    let piece = c.args.piece.now in
    c.in-Some.ensures.passes before (take taken piece) laids
    (length-take-le taken piece (omega (arith, c.min-taken.ensures))) after

pub returns-in-None-clause-feeds : goal.returns-in-None-clause-feeds
returns-in-None-clause-feeds c =
    λ before laids after.
    let taken = c.min-taken.result in
    let piece = c.args.piece.now in
    c.in-None.ensures.passes before (take taken piece) laids
    (length-take-le taken piece (omega (arith, c.min-taken.ensures))) after
