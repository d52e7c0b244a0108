use Rattle.std.proofs.Common.{subst, ◌∙◌, ap}
use Rattle.aptpl_store.specs.NotedStates.{NotedStates, with_state}
use Rattle.aptpl_store.specs.Inner.Reading.{IsNoState}
use Rattle.aptpl_store.specs.Spelling.{SpellsState}
use Rattle.aptpl_store.proofs.OpeningLemmas.{read_behind}
use Rattle.aptpl_store.proofs.recovering.RecoveredDecodes.end_body.Goals as goal

pub returns-in_default : goal.returns-in_default
returns-in_default c = λ start heading extents bodies had within.
    let self = c.args.self.now in
    subst IsNoState (within.body_is) (rw c.bytes.ensures at c.in_default.ensures.none)

pub returns : goal.returns
returns c = λ start heading extents bodies had within.
    let self = c.args.self.now in
    read_behind start.noted.notes start.last heading extents bodies had c.with_state.result.notes
    c.in-Some.state c.args._at c.args._body.now.bytes
    (subst (SpellsState c.in-Some.state) (within.body_is) (rw c.bytes.ensures at c.in-Some.ensures.some))
    (c.with_state.ensures ∙ ap (λ (n : NotedStates). with_state n c.in-Some.state) within.notes_same)
