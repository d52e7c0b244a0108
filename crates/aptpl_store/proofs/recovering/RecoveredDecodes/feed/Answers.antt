use Rattle.std.proofs.Common.{refl}
use Rattle.aptpl_store.specs.declared.recovering.Recovered.{Recovered}
use Rattle.aptpl_store.proofs.OpeningLemmas.{piece_taken}
use Rattle.aptpl_store.proofs.recovering.RecoveredDecodes.feed.Goals as goal

pub returns : goal.returns
returns c = λ start so_far within.
    let self = c.args.self.now in
    let new = record self { body = c.add.new.self; room = c.self-1.given.0 } in
    piece_taken (λ (d : Recovered). d.noted.notes) (λ (d : Recovered). d.last) (λ (d : Recovered). d.body) c.add.result
    start self new c.args._at so_far c.args.piece.now c.add.ensures.added c.add.ensures.long refl refl within
