use Rattle.std.proofs.Common.{◌∙◌, ◌++◌, ◌∷◌, [], ap, length, List, Option, None, arith}
use Rattle.std.proofs.lemmas.List.{length-replicate, replicate-append-replicate}
use Rattle.bay_moves.specs.Elements.{BayState, bay_at}
use Rattle.bay_moves.proofs.BayLemmas.{no_bay_in}
use Rattle.bay_moves.proofs.held.Held.new.Goals as goal

pub loop-preserved : goal.loop-preserved
loop-preserved g c =
    let at = c.loop.invariant in
    let push = c.push_reserved.ensures in
    record {
      so_far =
          push.items
          ∙ ap (λ (xs : List (Option (BayState g.row.D.Denot))). xs ++ None ∷ []) at.so_far
          ∙ replicate-append-replicate c.loop.counter 1 None;
      filled = omega (arith, at.filled, push.len);
      room = push.capacity ∙ at.room;
    }

pub invariant_of-result : goal.invariant_of-result
invariant_of-result g c =
    ap (λ (xs : List (Option (BayState g.row.D.Denot))). length xs) c.loop.invariant.so_far
    ∙ length-replicate c.loop.counter None ∙ omega (arith, c.loop-test.false, c.loop.auto.counter-end)

pub returns-clause-bays : goal.returns-clause-bays
returns-clause-bays g c = λ number.
    ap (λ (xs : List (Option (BayState g.row.D.Denot))). bay_at xs number) c.loop.invariant.so_far
    ∙ no_bay_in c.loop.counter number
