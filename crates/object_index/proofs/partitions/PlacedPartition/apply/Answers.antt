use Rattle.std.proofs.Common.{◌≡◌, ℕ, List, ◌++◌, take, arith, ap, sym, ◌∙◌}
use Rattle.std.proofs.lemmas.List.{append-nil}
use Rattle.object_index.specs.declared.places.Placed.{Placed}
use Rattle.change_records.specs.Records as records
use Rattle.object_index.specs.Places.{PlacedPart, objects_of_run, placed_by}
use Rattle.object_index.specs.Inner.Tables.{cost_of_objects}
use Rattle.object_index.proofs.Parts.{placed_of, cost_fits, limits_placed}
use Rattle.object_index.proofs.partitions.PlacedPartition.apply.Goals as goal

pub add-requires-clause-cost : goal.add-requires-clause-cost
add-requires-clause-cost c =
    let part : PlacedPart = placed_of c.self.inside.capacity c.self.inside.table in
    let none = rw (← c.self.view_is) at c.requires.fits in
    let made : c.cut.new.self.objects ++ objects_of_run c.in-Some.run'
    ≡ take (records.record_staying c.args.item) part.objects ++ placed_by c.args.item c.args.place =
    (λ i. c.cut.ensures.objects i ++ objects_of_run c.in-Some.run')
    ∙ (λ i. take (c.staying.ensures i) (c.in_ok-reserve.ensures.objects i) ++ objects_of_run c.in-Some.run')
    ∙ ap (λ (l : List Placed). take (records.record_staying c.args.item) part.objects ++ l) (sym
    c.in-Some.ensures.0) in
    let fits = cost_fits part c.args.item c.args.place c.self.invariant none in
    omega (arith, fits, ap cost_of_objects made)

pub invariant_of-self-in-Some : goal.invariant_of-self-in-Some
invariant_of-self-in-Some c =
    let part : PlacedPart = placed_of c.self.inside.capacity c.self.inside.table in
    let none = rw (← c.self.view_is) at c.requires.fits in
    let made : c.add.new.self.objects
    ≡ take (records.record_staying c.args.item) part.objects ++ placed_by c.args.item c.args.place =
    c.add.ensures.objects
    ∙ (λ i. c.cut.ensures.objects i ++ objects_of_run c.in-Some.run')
    ∙ (λ i. take (c.staying.ensures i) (c.in_ok-reserve.ensures.objects i) ++ objects_of_run c.in-Some.run')
    ∙ ap (λ (l : List Placed). take (records.record_staying c.args.item) part.objects ++ l) (sym
    c.in-Some.ensures.0) in
    rw made (limits_placed part c.args.item c.args.place c.add.new.self.reserved c.self.invariant none)

pub invariant_of-self-in_default : goal.invariant_of-self-in_default
invariant_of-self-in_default c =
    let part : PlacedPart = placed_of c.self.inside.capacity c.self.inside.table in
    let none = rw (← c.self.view_is) at c.requires.fits in
    let made : c.cut-in_default.new.self.objects
    ≡ take (records.record_staying c.args.item) part.objects ++ placed_by c.args.item c.args.place =
    c.cut-in_default.ensures.objects
    ∙ ap (λ (n : ℕ). take n part.objects) c.staying-in_default.ensures
    ∙ sym (append-nil (take (records.record_staying c.args.item) part.objects))
    ∙ ap (λ (l : List Placed). take (records.record_staying c.args.item) part.objects ++ l) (sym
    c.in_default.ensures.0) in
    rw made (limits_placed part c.args.item c.args.place c.cut-in_default.new.self.reserved c.self.invariant none)

pub returns-in_ok-reserve-clause-limits : goal.returns-in_ok-reserve-clause-limits
returns-in_ok-reserve-clause-limits c =
    let part : PlacedPart = placed_of c.self.inside.capacity c.self.inside.table in
    let none = rw (← c.self.view_is) at c.requires.fits in
    let made : c.add.new.self.objects
    ≡ take (records.record_staying c.args.item) part.objects ++ placed_by c.args.item c.args.place =
    c.add.ensures.objects
    ∙ (λ i. c.cut.ensures.objects i ++ objects_of_run c.in-Some.run')
    ∙ (λ i. take (c.staying.ensures i) (c.in_ok-reserve.ensures.objects i) ++ objects_of_run c.in-Some.run')
    ∙ ap (λ (l : List Placed). take (records.record_staying c.args.item) part.objects ++ l) (sym
    c.in-Some.ensures.0) in
    rw made (limits_placed part c.args.item c.args.place c.add.new.self.reserved c.self.invariant none)

pub returns-in_default-clause-limits : goal.returns-in_default-clause-limits
returns-in_default-clause-limits c =
    let part : PlacedPart = placed_of c.self.inside.capacity c.self.inside.table in
    let none = rw (← c.self.view_is) at c.requires.fits in
    let made : c.cut-in_default.new.self.objects
    ≡ take (records.record_staying c.args.item) part.objects ++ placed_by c.args.item c.args.place =
    c.cut-in_default.ensures.objects
    ∙ ap (λ (n : ℕ). take n part.objects) c.staying-in_default.ensures
    ∙ sym (append-nil (take (records.record_staying c.args.item) part.objects))
    ∙ ap (λ (l : List Placed). take (records.record_staying c.args.item) part.objects ++ l) (sym
    c.in_default.ensures.0) in
    rw made (limits_placed part c.args.item c.args.place c.cut-in_default.new.self.reserved c.self.invariant none)
