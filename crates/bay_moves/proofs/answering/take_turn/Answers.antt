use Rattle.std.proofs.Common.{[]}
use Rattle.volume_core.specs.Medium.{turn_met_fault}
use Rattle.drive_commands.specs.Events.{FlushTurn}
use Rattle.drive_commands.specs.State.{medium_in}
use Rattle.bay_moves.proofs.HandLemmas.{advanced_here, keeps_here, kept_bay, kept_here}
use Rattle.bay_moves.proofs.MomentLemmas.{event_keeps, turn_moments}
use Rattle.bay_moves.proofs.answering.take_turn.Goals as goal

pub turn-turn-requires : goal.turn-turn-requires
turn-turn-requires g c = record { hand = kept_bay g.D.Disk.state c.args.drive.now.bay c.requires.cartridge }

pub returns-clause-keeps : goal.returns-clause-keeps
returns-clause-keeps g c =
    let state = g.D.Disk.state in
    let old = c.args.drive.now in
    let new = c.turn-turn.new.self in
    let turned = c.turn-turn.ensures in
    event_keeps state g.met.D.Disk.is_disk c.reservations_outlive_each_stop.ensures.goes_on old new FlushTurn c.requires
    (c.turn-turn.result, turned)
    (keeps_here state (medium_in new.bay)
    (advanced_here state (medium_in old.bay) (medium_in new.bay) []
    (turn_met_fault c.turn-turn.result) (kept_here state (medium_in old.bay) c.requires.cartridge) turned.advances)
    c.known.ensures)

pub returns-clause-moments : goal.returns-clause-moments
returns-clause-moments g c =
    turn_moments g.D.Disk.state g.met.D.Disk.is_disk c.reservations_outlive_each_stop.ensures.goes_on
    c.args.drive.now c.turn-turn.new.self c.turn-turn.result c.requires c.turn-turn.ensures
