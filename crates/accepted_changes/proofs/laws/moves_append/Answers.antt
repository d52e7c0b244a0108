use Rattle.accepted_changes.specs.Events.{core_moves_nowhere, core_moves_on}
use Rattle.accepted_changes.proofs.laws.moves_append.Goals as goal

pub returns : goal.returns
returns g c =
    record {
      nothing = core_moves_nowhere g.A.Accepting.rules g.A.Accepting.device g.A.Accepting.is_device;
      in_a_row = core_moves_on g.A.Accepting.rules g.A.Accepting.device g.A.Accepting.is_device;
    }
