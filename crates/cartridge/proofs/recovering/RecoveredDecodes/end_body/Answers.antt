use Rattle.std.proofs.Common.{[], ap, sym, ◌∙◌}
use Rattle.std.specs.Prelude.{unwrap_or}
use Rattle.change_records.specs.ChangesOn.{changes_on}
use Rattle.cartridge.specs.Notes.{Notes, with_frame}
use Rattle.cartridge.proofs.OpeningLemmas.{read_behind, refused_behind}
use Rattle.cartridge.proofs.PieceLemmas.{walked_badly, walked_whole}
use Rattle.cartridge.proofs.recovering.RecoveredDecodes.end_body.Goals as goal

pub returns-then-is_err : goal.returns-then-is_err
returns-then-is_err c = λ start heading extents bodies had within.
    let self = c.args.self.now in
    let body = c.args.body.now.bytes in
    refused_behind start.index start.noted.notes heading extents bodies had self.index c.args._at body
    (walked_badly start.index c.args._at body self.index self.reader within.walked c.end.result
    (c.end.ensures body within.walked.changes within.walked.after) (sym c.is_err.ensures.value ∙ c.if-is_err.true))

pub returns : goal.returns
returns c = λ start heading extents bodies had within.
    let self = c.args.self.now in
    let body = c.args.body.now.bytes in
    read_behind start.index start.noted.notes heading extents bodies had self.index c.with_body.result.notes
    c.args._at body
    (walked_whole start.index c.args._at body self.index self.reader within.walked c.end.result
    (c.end.ensures body within.walked.changes within.walked.after) (sym c.is_err.ensures.value ∙ c.if-is_err.false))
    (c.with_body.ensures
    ∙ ap (λ (n : Notes). with_frame n (unwrap_or (changes_on body) [])) within.notes_same)
