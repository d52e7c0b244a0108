use Rattle.std.proofs.Common.{◌∙◌, ap, sym, refl, ℕ, ◌-◌}
use Rattle.bay_moves.specs.Elements.{HeldState, bay_at}
use Rattle.bay_moves.proofs.BayLemmas.{at_no_place, found_at}
use Rattle.bay_moves.proofs.LiftedLemmas.{taken_becomes, taken_none, taken_some}
use Rattle.bay_moves.proofs.held.Held.take_drive.Goals as goal

pub returns-in-Some-clause-out : goal.returns-in-Some-clause-out
returns-in-Some-clause-out g c =
    let at = c.in-Some.ensures.some in
    let found = found_at c.self.inside.bays.items c.args.address c.place.result c.index_mut.result.now at.1 at.2
    c.self.invariant (c.place.ensures.place ∙ ap (λ (n : ℕ). n - 1) at.0) c.index_mut.ensures.value in
    c.take.ensures.value
    ∙ sym (ap (λ (h : HeldState g.row.D.Denot). bay_at h.bays c.args.address) (sym c.self.view_is) ∙ found)

pub returns-in-Some-clause-left : goal.returns-in-Some-clause-left
returns-in-Some-clause-left g c =
    let at = c.in-Some.ensures.some in
    let place = c.place.ensures.place ∙ ap (λ (n : ℕ). n - 1) at.0 in
    let found = found_at c.self.inside.bays.items c.args.address c.place.result c.index_mut.result.now at.1 at.2
    c.self.invariant place c.index_mut.ensures.value in
    taken_becomes c.self.inside.slots c.self.inside.bays.items c.args.address c.place.result c.take.result
    c.take.new.self c.args.self.now c.self.view_is (record { least = at.1; most = at.2 }) place
    (found ∙ sym c.take.ensures.value) c.take.ensures.after c.self.invariant

pub returns-in-Some-clause-some : goal.returns-in-Some-clause-some
returns-in-Some-clause-some g c =
    let at = c.in-Some.ensures.some in
    let place = c.place.ensures.place ∙ ap (λ (n : ℕ). n - 1) at.0 in
    let found = found_at c.self.inside.bays.items c.args.address c.place.result c.index_mut.result.now at.1 at.2
    c.self.invariant place c.index_mut.ensures.value in
    taken_some c.self.inside.slots c.self.inside.bays.items c.args.address c.place.result c.take.result
    c.take.new.self c.args.self.now c.self.view_is (record { least = at.1; most = at.2 }) place
    (found ∙ sym c.take.ensures.value) c.take.ensures.after

pub returns-in-Some-clause-none : goal.returns-in-Some-clause-none
returns-in-Some-clause-none g c =
    let at = c.in-Some.ensures.some in
    let place = c.place.ensures.place ∙ ap (λ (n : ℕ). n - 1) at.0 in
    let found = found_at c.self.inside.bays.items c.args.address c.place.result c.index_mut.result.now at.1 at.2
    c.self.invariant place c.index_mut.ensures.value in
    taken_none c.self.inside.slots c.self.inside.bays.items c.args.address c.place.result c.take.result
    c.take.new.self c.args.self.now c.self.view_is (record { least = at.1; most = at.2 }) place
    (found ∙ sym c.take.ensures.value) c.take.ensures.after

pub returns-in-None-clause-out : goal.returns-in-None-clause-out
returns-in-None-clause-out g c =
    sym (ap (λ (h : HeldState g.row.D.Denot). bay_at h.bays c.args.address) (sym c.self.view_is)
    ∙ at_no_place c.self.inside.bays.items c.args.address c.self.invariant c.in-None.ensures.none)

pub returns-in-None-clause-left : goal.returns-in-None-clause-left
returns-in-None-clause-left g c =
    let none = at_no_place c.self.inside.bays.items c.args.address c.self.invariant c.in-None.ensures.none in
    record {
      here = ap (λ (h : HeldState g.row.D.Denot). bay_at h.bays c.args.address) (sym c.self.view_is) ∙ none;
      elsewhere = λ other differs. refl;
    }
