use Rattle.std.proofs.Common.{◌≡◌, ◌+◌, ◌++◌, ◌∷◌, [], ℕ, ap, arith, map, subst, ◌∙◌}
use Rattle.std.specs.List.{range_with_len}
use Rattle.vtl_serve.specs.Labels.{entry_at}
use Rattle.vtl_serve.proofs.LabelLemmas.{slots_more}
use Rattle.vtl_serve.proofs.desks.add_slots.Goals as goal

pub loop-place-preserved : goal.loop-place-preserved
loop-place-preserved c =
    let place = c.loop-place.place in
    let address : c.from.result + c.from-in-loop-place.result ≡ 1001 + place =
    omega (arith, c.from.ensures, c.from-in-loop-place.ensures) in
    slots_more c.args.labels.now 1001 place c.args.entries.now.items c.add_entry.new.entries.items
    c.loop-place.entries.items c.loop-place.invariant
    (c.in_ok-add_entry.ensures
    ∙ ap (λ (n : ℕ). c.loop-place.entries.items ++ entry_at c.args.labels.now n ∷ []) address)

pub returns : goal.returns
returns c =
    let all : c.loop-place.place ≡ 256 = omega (arith, c.loop-place-test.false, c.loop-place.auto.place-end) in
    subst
    (λ (n : ℕ). c.loop-place.entries.items
    ≡ c.args.entries.now.items ++ map (entry_at c.args.labels.now) (range_with_len 1001 n))
    all c.loop-place.invariant
