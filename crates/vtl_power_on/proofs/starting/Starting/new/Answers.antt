use Rattle.std.proofs.Common.{◌∙◌, ◌++◌, ◌∷◌, [], ap, length, List, Option, None, arith}
use Rattle.std.proofs.lemmas.List.{length-replicate, replicate-append-replicate}
use Rattle.tape_buffer.specs.State.{BufferState}
use Rattle.vtl_power_on.proofs.WaitingLemmas.{bare}
use Rattle.vtl_power_on.proofs.starting.Starting.new.Goals as goal

pub loop-preserved : goal.loop-preserved
loop-preserved g c =
    let at = c.loop.invariant in
    let push = c.push_reserved.ensures in
    record {
      so_far =
          push.items
          ∙ ap (λ (xs : List (Option (BufferState g.row.D.Denot))). xs ++ None ∷ []) at.so_far
          ∙ replicate-append-replicate c.loop.counter 1 None;
      filled = omega (arith, at.filled, push.len);
      room = push.capacity ∙ at.room;
    }

pub invariant_of-result : goal.invariant_of-result
invariant_of-result g c =
    ap (λ (xs : List (Option (BufferState g.row.D.Denot))). length xs) c.loop.invariant.so_far
    ∙ length-replicate c.loop.counter None ∙ omega (arith, c.loop-test.false, c.loop.auto.counter-end)

pub returns : goal.returns
returns g c =
    bare c.in_ok-held.held c.loop.counter c.loop.waiting.items c.loop.invariant.so_far c.in_ok-held.ensures.slots
    c.in_ok-held.ensures.bays
