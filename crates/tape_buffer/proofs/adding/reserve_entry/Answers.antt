use Rattle.std.proofs.Common.{arith}
use Rattle.object_index.specs.Places.{reserved_of}
use Rattle.tape_buffer.proofs.IndexLemmas.{as_many_parts, shown_reserved}
use Rattle.tape_buffer.proofs.VolumeLemmas.{inside_of}
use Rattle.tape_buffer.proofs.adding.reserve_entry.Goals as goal

pub reserve-requires : goal.reserve-requires
reserve-requires c =
    omega (
      arith,
      c.part.ensures,
      inside_of c.requires.0 c.args.change.now c.requires.2,
      as_many_parts c.args.index.now c.requires.0 c.requires.1,
    )

pub returns-clause-shows : goal.returns-clause-shows
returns-clause-shows c = λ volume is.
    shown_reserved c.args.index.now c.reserve.new.self volume c.part.result
    (reserved_of c.reserve.new.self c.part.result) c.reserve.ensures.same is
