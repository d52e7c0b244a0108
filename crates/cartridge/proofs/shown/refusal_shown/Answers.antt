use Rattle.std.proofs.Common.{List, ◌∙◌, ap}
use Rattle.volume_core.specs.Volume.{Part, refusal_of}
use Rattle.object_index.specs.Facts.{refusal_of_shape}
use Rattle.cartridge.proofs.shown.refusal_shown.Goals as goal

pub returns : goal.returns
returns c = λ volume is.
    c.refusal.ensures
    ∙ ap (λ (v : List Part). refusal_of v c.args.change.now) is
    ∙ refusal_of_shape volume c.args.change.now
