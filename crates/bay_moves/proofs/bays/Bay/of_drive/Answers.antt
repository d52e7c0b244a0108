use Rattle.drive_commands.specs.State.{medium_in}
use Rattle.bay_moves.proofs.HandLemmas.{here_bay, keeps_here}
use Rattle.bay_moves.proofs.bays.Bay.of_drive.Goals as goal

pub invariant_of-result : goal.invariant_of-result
invariant_of-result g c =
    let bay = c.args.drive.bay in
    record {
      cartridge = keeps_here g.D.Disk.state (medium_in bay) (here_bay bay c.requires.hand) c.known.ensures;
      reservations = c.requires.holding;
    }
