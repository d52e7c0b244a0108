use Rattle.std.proofs.Common.{◌≡◌, [], ◌∷◌, Ok, sym, subst, true, ◌∙◌}
use Rattle.volume_core.specs.Medium.{Accepts, block_bytes, volume_of}
use Rattle.volume_core.specs.Stores.{Stores, stores_nowhere}
use Rattle.object_index.specs.Shapes.{IsIndexOf}
use Rattle.tape_buffer.specs.declared.aways.Away.{Away}
use Rattle.tape_buffer.specs.Aways.{seen_as}
use Rattle.tape_buffer.specs.Frames.{AcceptsInFrames}
use Rattle.tape_buffer.specs.Limits.{FitsBuffer}
use Rattle.tape_buffer.proofs.AwayLemmas.{accepts, fits_more, frames_away, keeps_one, may_enter, seen_more, stores_away, takes_none, took}
use Rattle.tape_buffer.proofs.aways.accept_away.Goals as goal

pub enter_shown-requires : goal.enter_shown-requires
enter_shown-requires c =
    let away = c.args.away.now in
    let change = c.args.change in
    let seen = volume_of away.noted in (
      seen,
      may_enter c.args.index.now away.noted away.left.records change c.requires.shows c.requires.knows.roomy
          (took away.left away.loose (block_bytes change) c.requires.within).few
          (sym (c.refusal_shown.ensures seen c.requires.shows) ∙ c.in-None.is),
    )

pub keep-requires-clause-loose : goal.keep-requires-clause-loose
keep-requires-clause-loose c =
    let away = c.args.away.now in
    (takes_none away.left away.loose (block_bytes c.args.change) c.requires.within).0

pub keep-requires-clause-within : goal.keep-requires-clause-within
keep-requires-clause-within c =
    let away = c.args.away.now in
    let change = c.args.change in
    keeps_one away.left change (took away.left away.loose (block_bytes change) c.requires.within)

pub returns-in-None-clause-shows : goal.returns-in-None-clause-shows
returns-in-None-clause-shows c =
    let seen = c.args.away.now.noted in
    let change = c.args.change in
    subst (λ (a : Away). IsIndexOf c.enter_shown.new.index (volume_of a.noted)) (sym c.keep.ensures)
    (subst (IsIndexOf c.enter_shown.new.index) (sym (seen_more seen change))
    (c.enter_shown.ensures.shows (volume_of seen) c.requires.shows))

pub returns-in-None-clause-answer : goal.returns-in-None-clause-answer
returns-in-None-clause-answer c =
    let away = c.args.away.now in
    let change = c.args.change in
    let none = sym (c.refusal_shown.ensures (volume_of away.noted) c.requires.shows) ∙ c.in-None.is in
    subst (λ (a : Away). Accepts (seen_as away.noted) change (Ok tt) (seen_as a.noted)) (sym c.keep.ensures)
    (accepts c.args.index.now away change c.requires.knows c.requires.awake
    (took away.left away.loose (block_bytes change) c.requires.within) none)

pub returns-in-None-clause-fits : goal.returns-in-None-clause-fits
returns-in-None-clause-fits c =
    let away = c.args.away.now in
    let change = c.args.change in
    subst (λ (a : Away). FitsBuffer a.noted.pending) (sym c.keep.ensures)
    (fits_more c.args.index.now away change c.requires.knows c.requires.awake
    (took away.left away.loose (block_bytes change) c.requires.within))

pub returns-in-None-clause-frames : goal.returns-in-None-clause-frames
returns-in-None-clause-frames c =
    let away = c.args.away.now in
    let change = c.args.change in
    subst (λ (a : Away). AcceptsInFrames change (Ok tt) [] away.noted.pending [] a.noted.pending) (sym c.keep.ensures)
    (frames_away away.noted.pending change
    (fits_more c.args.index.now away change c.requires.knows c.requires.awake
    (took away.left away.loose (block_bytes change) c.requires.within)))

pub returns-in-Some-clause-stores : goal.returns-in-Some-clause-stores
returns-in-Some-clause-stores c = stores_nowhere (seen_as c.args.away.now.noted)

pub returns-in-None-clause-stores : goal.returns-in-None-clause-stores
returns-in-None-clause-stores c =
    let seen = c.args.away.now.noted in
    let made = c.args.change ∷ [] in
    subst (λ (a : Away). Stores (seen_as seen) made (seen_as a.noted)) (sym c.keep.ensures) (stores_away seen made)

pub returns-in-None-clause-awake : goal.returns-in-None-clause-awake
returns-in-None-clause-awake c =
    subst (λ (a : Away). a.noted.awake ≡ true) (sym c.keep.ensures) c.requires.awake
