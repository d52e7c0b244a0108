use Rattle.std.proofs.Common.{rules}
use Rattle.library.proofs.places.moves.move_known.Goals.{in-Some-Some, in-Some-None, in-None-Some, in-None-None}
use Rattle.library.proofs.places.moves.move_known.Goals as goal

pub returns-clause-source : goal.returns-clause-source
returns-clause-source g c =
    elim c.match-source.branch [
      | in-Some-Some w ↦ search rules
      | in-Some-None w ↦ search rules
      | in-None-Some w ↦ search rules
      | in-None-None w ↦ search rules
    ]

pub returns-clause-destination : goal.returns-clause-destination
returns-clause-destination g c =
    elim c.match-source.branch [
      | in-Some-Some w ↦ search rules
      | in-Some-None w ↦ search rules
      | in-None-Some w ↦ search rules
      | in-None-None w ↦ search rules
    ]

pub returns-clause-moves : goal.returns-clause-moves
returns-clause-moves g c =
    elim c.match-source.branch [
      | in-Some-Some w ↦ search rules
      | in-Some-None w ↦ search rules
      | in-None-Some w ↦ search rules
      | in-None-None w ↦ search rules
    ]
