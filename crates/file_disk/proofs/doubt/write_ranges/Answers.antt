use Rattle.std.proofs.Common.{ap, length, arith}
use Rattle.file_disk.proofs.doubt.write_ranges.Goals as goal

pub write_again-requires-clause-inside : goal.write_again-requires-clause-inside
write_again-requires-clause-inside g c = λ honest. omega (arith, c.min.ensures, c.requires.length honest)

pub write_again-requires-2-clause-inside : goal.write_again-requires-2-clause-inside
write_again-requires-2-clause-inside g c = λ honest.
    let rested = c.write_again.ensures.rested in
    let was = rested.honesty.was_honest honest in
    omega (arith, c.min-2.ensures, c.requires.length was, ap length (rested.rests was).seen)
