use Rattle.std.proofs.Common.{◌++◌, refl}
use Rattle.std.proofs.lemmas.Result.{IfOk-weaker}
use Rattle.cartridge.specs.declared.recovering.Recovered.{Recovered}
use Rattle.cartridge.proofs.OpeningLemmas.{piece_taken}
use Rattle.cartridge.proofs.recovering.RecoveredDecodes.feed.Goals as goal

pub walk_piece-requires : goal.walk_piece-requires
walk_piece-requires c =
    let within = c.requires.2 in
    (c.requires.0.index, c.requires.1, within.walked, c.requires.3)

pub returns : goal.returns
returns c =
    let self = c.args.self.now in
    let new = record self { index = c.walk_piece.new.index; reader = c.walk_piece.new.reader } in
    IfOk-weaker c.walk_piece.result _ _
    (λ good walks start so_far within.
    piece_taken (λ (d : Recovered). d.index) (λ (d : Recovered). d.noted.notes) (λ (d : Recovered). d.reader) good start
    self new c.args.at so_far (so_far ++ c.args.piece.now) refl within (walks start.index so_far within.walked))
    c.walk_piece.ensures
