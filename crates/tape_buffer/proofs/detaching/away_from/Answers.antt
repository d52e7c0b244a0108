use Rattle.std.proofs.Common.{ap, length, subst, sym, ◌∙◌}
use Rattle.volume_core.specs.Medium.{MediumState}
use Rattle.tape_buffer.specs.Aways.{IsCut}
use Rattle.tape_buffer.specs.declared.budgets.Budget.{Budget}
use Rattle.tape_buffer.specs.Invariants.{buffer_of}
use Rattle.tape_buffer.proofs.DetachingLemmas.{knows_away, shows_away}
use Rattle.tape_buffer.proofs.detaching.away_from.Goals as goal

pub returns-clause-away : goal.returns-clause-away
returns-clause-away g c =
    record {
      noted = c.away_of.ensures.noted ∙ c.allow-left.ensures.state;
      loose = c.away_of.ensures.loose;
      cut = subst (λ (b : Budget). IsCut c.allow-left.result b) (sym c.away_of.ensures.left) c.cut_to-cut.ensures.cut;
    }

pub returns-clause-shows : goal.returns-clause-shows
returns-clause-shows g c =
    shows_away g.D.Disk.state (buffer_of c.args.held.now) (buffer_of c.allow-left.new.held) c.allow-left.result
    c.cut_to-cut.result c.away_of.result c.allow-left.ensures.lends c.cut_to-cut.ensures.cut c.away_of.ensures.left
    (c.away_of.ensures.noted ∙ c.allow-left.ensures.state) c.args.catalog.now c.cut_to-cut.new.catalog
    c.requires.shows c.cut_to-cut.ensures.grown

pub returns-clause-knows : goal.returns-clause-knows
returns-clause-knows g c =
    let state = g.D.Disk.state in
    let old = buffer_of c.args.held.now in
    let new = buffer_of c.allow-left.new.held in
    let noted = c.away_of.ensures.noted ∙ c.allow-left.ensures.state in
    let shows = shows_away state old new c.allow-left.result c.cut_to-cut.result c.away_of.result
    c.allow-left.ensures.lends c.cut_to-cut.ensures.cut c.away_of.ensures.left noted c.args.catalog.now
    c.cut_to-cut.new.catalog c.requires.shows c.cut_to-cut.ensures.grown in
    knows_away state old new c.allow-left.result c.cut_to-cut.result c.away_of.result c.allow-left.ensures.lends
    c.cut_to-cut.ensures.cut c.away_of.ensures.left noted c.cut_to-cut.new.catalog shows c.cut_to-cut.ensures.entries
    (c.away_of.ensures.failed ∙ ap (λ (m : MediumState). m.failed) c.allow-left.ensures.state)
    (c.away_of.ensures.waiting ∙ ap (λ (m : MediumState). length m.pending) c.allow-left.ensures.state)
    c.away_of.ensures.fits
