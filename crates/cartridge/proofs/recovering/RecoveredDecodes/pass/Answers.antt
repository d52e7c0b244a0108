use Rattle.std.proofs.Common.{◌++◌, refl}
use Rattle.std.proofs.lemmas.Result.{IfOk-weaker}
use Rattle.cartridge.specs.declared.recovering.Recovered.{Recovered}
use Rattle.cartridge.proofs.OpeningLemmas.{piece_taken}
use Rattle.cartridge.proofs.recovering.RecoveredDecodes.pass.Goals as goal

pub walk_over-requires-clause-may : goal.walk_over-requires-clause-may
walk_over-requires-clause-may c =
    let in_flight = c.requires.in_flight in
    (in_flight.0.index, in_flight.1, in_flight.2.walked, in_flight.3)

pub returns : goal.returns
returns c =
    let self = c.args.self.now in
    let new = record self { index = c.walk_over.new.index; reader = c.walk_over.new.reader } in
    IfOk-weaker c.walk_over.result _ _
    (λ good walks start so_far bytes sized within.
    piece_taken (λ (d : Recovered). d.index) (λ (d : Recovered). d.noted.notes) (λ (d : Recovered). d.reader) good start
    self new c.args.at so_far (so_far ++ bytes) refl within (walks start.index so_far bytes sized within.walked))
    c.walk_over.ensures
