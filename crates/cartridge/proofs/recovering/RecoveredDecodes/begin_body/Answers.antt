use Rattle.std.proofs.Common.{refl}
use Rattle.cartridge.proofs.PieceLemmas.{walked_none}
use Rattle.cartridge.proofs.recovering.RecoveredDecodes.begin_body.Goals as goal

pub returns : goal.returns
returns c = λ at.
    let self = c.args.self.now in
    record {
      notes_same = refl;
      walked = walked_none self.index at self.index c.new-self.result refl c.new-self.ensures.after;
    }
